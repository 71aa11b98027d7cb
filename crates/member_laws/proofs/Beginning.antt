-- A written member begins with its symbol records, and no record that follows them begins as they do.
use Rattle.std.proofs.Common.{◌≡◌, ℕ, zero, suc, ◌+◌, ◌*◌, ◌/◌, ◌<◌, ◌≤◌, Bool, true, false, ◌==◌, if◌then◌else◌, List, [], ◌∷◌, ◌++◌, map, length, None, option_map, refl, sym, ap, subst, ◌∙◌, arith}
use Rattle.std.specs.Bool.{⊤}
use Rattle.std.specs.Prelude.{take_while}
use Rattle.std.proofs.lemmas.Bool.{cond-true, cond-false}
use Rattle.std.proofs.lemmas.List.{append_assoc, length-map}
use Rattle.std.proofs.lemmas.List.FromFn.{length-enumerate_from, length-map-range_with_len}
use Rattle.std.proofs.lemmas.List.Sums.{take_while-cons}
use Rattle.std.specs.List.{AllByRecursion, flat_map, range_with_len, enumerate_from}
use Rattle.byteorder.specs.Endian.{big_bytes}
use Rattle.load_recs.specs.declared.records.Ends.{Ends}
use Rattle.load_recs.specs.ItemBytes.{symbol_bytes, note_bytes}
use Rattle.load_recs.specs.Records.{Record, SymbolRecord, ScatterRecord, TranslationRecord, NoteRecord, rec_bytes}
use Rattle.linking_model.specs.Places.{Laid, is_overlay}
use Rattle.member_model.specs.Cuts.{cuts, together}
use Rattle.member_model.specs.Facts.{nothing_ends}
use Rattle.member_model.specs.Pieces.{Piece, ends_at, piece_records, records_or_empty, control_record}
use Rattle.member_model.specs.SymbolList.{head_records, symbols_written, scatter_items, translation_numbers, symbol_records, scatter_records, first_records}
use Rattle.member_model.specs.FirstBad.{begins_with_symbols, first_symbols, head_fault}
use Rattle.member_model.specs.Written.{note_items, note_record_count, note_records, segment_records}
use Rattle.member_laws.specs.Gathered.{segment_lists}
use Rattle.member_laws.proofs.Gathering.{records_of}
use Rattle.member_laws.proofs.HeadPartFine.{later_heads}
use Rattle.member_laws.proofs.Lists.{each-map, each-always}

-- ---- how records begin

-- the record begins as a symbol record does
abbrev pub begins : Record → Bool
begins r = begins_with_symbols (rec_bytes r)

-- the list is empty, or its first record begins otherwise
abbrev pub StartsOtherwise : List Record → Type 0
StartsOtherwise [] = ⊤
StartsOtherwise (r ∷ rs) = begins r ≡ false

starts-append : (rs qs : List Record) → StartsOtherwise rs → StartsOtherwise qs → StartsOtherwise (rs ++ qs)
starts-append [] qs a b = b
starts-append (r ∷ rs) qs a b = a

starts-map : {X : Type 0} (make : X → Record) (xs : List X) → ((x : X) → begins (make x) ≡ false) → StartsOtherwise (map make xs)
starts-map make [] other = tt
starts-map make (x ∷ xs) other = other x

with-ends : (s m : Bool) → ((1 + ((if s then 4 else 0) + (if m then 8 else 0))) == 32) ≡ false
with-ends true true = refl
with-ends true false = refl
with-ends false true = refl
with-ends false false = refl

rld-ends : (s m : Bool) → ((2 + ((if s then 4 else 0) + (if m then 8 else 0))) == 32) ≡ false
rld-ends true true = refl
rld-ends true false = refl
rld-ends false true = refl
rld-ends false false = refl

pieces-start : (ends : Ends) (x : Piece) (rest : List Piece) → StartsOtherwise (piece_records ends [] (x ∷ rest))
unfolding piece_records
pieces-start ends x [] =
    let own : Ends = if length x.chunks == 0 then ends else nothing_ends in with-ends own.segment own.module
pieces-start ends x (y ∷ rest) = refl

segment-starts : (P : Laid) (n s : ℕ) → StartsOtherwise (segment_records P n s)
unfolding segment_records
segment-starts P n s = by_pieces _
  where
    by_pieces : (xs : List Piece) → StartsOtherwise (records_or_empty (ends_at (length P.tree) s) xs)
    by_pieces [] = rld-ends true (s == length P.tree)
    by_pieces (x ∷ xs) = pieces-start (ends_at (length P.tree) s) x xs

segments-start : (P : Laid) (n i k : ℕ) → StartsOtherwise (records_of P n i k)
segments-start P n i zero = tt
segments-start P n i (suc k) = starts-append (segment_records P n i) (records_of P n (i + 1) k) (segment-starts P n i) (segments-start P n (i + 1) k)

heads-start : (P : Laid) (scatter : Bool) (n : ℕ) → StartsOtherwise (later_heads P scatter n)
heads-start P scatter n =
    starts-append (if scatter then scatter_records P else []) (if is_overlay P.tree then note_records P (length (first_records P scatter)) (segment_lists P n) else []) (scatters scatter) (notes (is_overlay P.tree))
  where
    scatters : (b : Bool) → StartsOtherwise (if b then scatter_records P else [])
    scatters true =
        starts-append (head_records (λ first items. ScatterRecord first items) 60 (scatter_items P)) (head_records (λ first items. TranslationRecord first items) 120 (map (big_bytes 2) (translation_numbers P)))
        (starts-map (λ ((k, some) : ℕ × List (List ℕ)). ScatterRecord (k * 60 + 1) (together some)) (enumerate_from 0 (cuts 60 (scatter_items P))) (λ x. refl))
        (starts-map (λ ((k, some) : ℕ × List (List ℕ)). TranslationRecord (k * 120 + 1) (together some)) (enumerate_from 0 (cuts 120 (map (big_bytes 2) (translation_numbers P)))) (λ x. refl))
    scatters false = tt

    notes : (b : Bool) → StartsOtherwise (if b then note_records P (length (first_records P scatter)) (segment_lists P n) else [])
    notes true =
        starts-map (λ ((k, some) : ℕ × List (List ℕ)). NoteRecord (k * 20 + 1) (together some))
        (enumerate_from 0 (cuts 20 (map note_bytes (note_items P (length (first_records P scatter) + note_record_count P + 1) 1 (segment_lists P n))))) (λ x. refl)
    notes false = tt

-- ---- the symbol records

-- the records after the symbol records
abbrev pub later_records : Laid → Bool → ℕ → List Record
later_records P scatter n = later_heads P scatter n ++ records_of P n 1 (length P.tree)

symbols-begin : (P : Laid) → AllByRecursion (λ r. begins r ≡ true) (symbol_records P)
symbols-begin P =
    each-map (λ r. begins r ≡ true) (λ ((k, some) : ℕ × List (List ℕ)). SymbolRecord (k * 15 + 1) (together some)) (enumerate_from 0 (cuts 15 (map symbol_bytes (symbols_written P))))
    (each-always _ (λ x. refl) (enumerate_from 0 (cuts 15 (map symbol_bytes (symbols_written P)))))

taken : (rs qs : List Record) → AllByRecursion (λ r. begins r ≡ true) rs → StartsOtherwise qs → take_while begins_with_symbols (map rec_bytes (rs ++ qs)) ≡ map rec_bytes rs
taken [] [] all other = refl
taken [] (q ∷ qs) all other = take_while-cons begins_with_symbols (rec_bytes q) (map rec_bytes qs) ∙ cond-false (begins q) (rec_bytes q ∷ take_while begins_with_symbols (map rec_bytes qs)) [] other
taken (r ∷ rs) qs all other =
    take_while-cons begins_with_symbols (rec_bytes r) (map rec_bytes (rs ++ qs))
    ∙ cond-true (begins r) (rec_bytes r ∷ take_while begins_with_symbols (map rec_bytes (rs ++ qs))) [] all.0
    ∙ ap (λ l. rec_bytes r ∷ l) (taken rs qs all.1 other)

pub first-are-symbols : (P : Laid) (scatter : Bool) (n : ℕ) → first_symbols (map rec_bytes (symbol_records P ++ later_records P scatter n)) ≡ map rec_bytes (symbol_records P)
first-are-symbols P scatter n =
    taken (symbol_records P) (later_records P scatter n) (symbols-begin P)
    (starts-append (later_heads P scatter n) (records_of P n 1 (length P.tree)) (heads-start P scatter n) (segments-start P n 1 (length P.tree)))

head-none : (rs qs : List Record) → 1 ≤ length rs → AllByRecursion (λ r. begins r ≡ true) rs → head_fault (map rec_bytes (rs ++ qs)) ≡ None
head-none [] qs some all = absurd (omega arith)
head-none (r ∷ rs) qs some all = cond-true (begins r) None _ all.0

symbol-records-some : (P : Laid) → 1 ≤ length (symbols_written P) → 1 ≤ length (symbol_records P)
symbol-records-some P some =
    let items = map symbol_bytes (symbols_written P) in
    let count : length (symbol_records P) ≡ (length items + 14) / 15 =
    length-map (enumerate_from 0 (cuts 15 items)) (λ ((k, some) : ℕ × List (List ℕ)). SymbolRecord (k * 15 + 1) (together some)) ∙ length-enumerate_from 0 (cuts 15 items) ∙ length-map-range_with_len _ 0 ((length items + 14) / 15) in
    let len : length items ≡ length (symbols_written P) = length-map (symbols_written P) symbol_bytes in
    filled (length (symbol_records P)) (length items) (length (symbols_written P)) count len some
  where
    filled : (a b c : ℕ) → a ≡ (b + 14) / 15 → b ≡ c → 1 ≤ c → 1 ≤ a
    filled a b c e f g = omega arith

pub head_fine : (P : Laid) (scatter : Bool) (n : ℕ) → 1 ≤ length (symbols_written P) → head_fault (map rec_bytes (symbol_records P ++ later_records P scatter n)) ≡ None
head_fine P scatter n some = head-none (symbol_records P) (later_records P scatter n) (symbol-records-some P some) (symbols-begin P)
