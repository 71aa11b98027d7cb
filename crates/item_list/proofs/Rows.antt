-- The rows of one more item.
use Rattle.std.proofs.Common.{◌≡◌, ℕ, ◌+◌, ◌<◌, List, [], ◌++◌, map, flat_map, length, get_or, drop, sym, ap, ◌∙◌, arith, append_assoc}
use Rattle.std.specs.List.{range_with_len, enumerate_from}
use Rattle.std.proofs.lemmas.List.{drop_more}
use Rattle.std.proofs.lemmas.List.FromFn.{get_or-map-range_with_len}
use Rattle.load_recs.specs.declared.items.SymbolItem.{SymbolItem}
use Rattle.list_text.specs.declared.rows.MapRow.{MapRow}
use Rattle.item_list.specs.Maps.{label_rows, rows_with, rows_of}

pub rows_of_more : (origin : ℕ) (symbols : List SymbolItem) (k : ℕ) (d : SymbolItem) (now new own whole : List MapRow) (lists : List (List MapRow))
    → k < length symbols → lists ≡ map (label_rows origin symbols) (range_with_len 1 (length symbols))
    → own ≡ get_or lists k [] → new ≡ now ++ rows_with origin (get_or symbols k d) own
    → now ++ flat_map (rows_of origin symbols) (enumerate_from (k + 1) (drop k symbols)) ≡ whole
    → new ++ flat_map (rows_of origin symbols) (enumerate_from (k + 1 + 1) (drop (k + 1) symbols)) ≡ whole
rows_of_more origin symbols k d now new own whole lists h made is pushed so_far =
    let x : SymbolItem = get_or symbols k d in
    let rest : List MapRow = flat_map (rows_of origin symbols) (enumerate_from (k + 1 + 1) (drop (k + 1) symbols)) in
    let o : own ≡ label_rows origin symbols (k + 1)
    = is ∙ ap (λ l. get_or l k []) made ∙ get_or-map-range_with_len (label_rows origin symbols) 1 (length symbols) k (k + 1) [] h (omega arith) in
    ap (λ l. l ++ rest) (pushed ∙ ap (λ l. now ++ rows_with origin x l) o)
    ∙ append_assoc now (rows_with origin x (label_rows origin symbols (k + 1))) rest
    ∙ sym (ap (λ l. now ++ flat_map (rows_of origin symbols) (enumerate_from (k + 1) l)) (drop_more symbols k d h))
    ∙ so_far
