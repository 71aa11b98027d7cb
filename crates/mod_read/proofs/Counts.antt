-- How many symbol items are kept before each.
use Rattle.std.proofs.Common.{arith, ◌≡◌, ℕ, ◌+◌, ◌-◌, ◌<◌, ◌≤◌, min, Bool, true, false, not, if◌then◌else◌, List, [], ◌∷◌, ◌++◌, map, length, take, get_or, refl, sym, ap, subst, ◌∙◌}
use Rattle.std.specs.List.{count_by, range_with_len}
use Rattle.std.proofs.lemmas.List.{take_min, length-take}
use Rattle.std.proofs.lemmas.List.Sums.{count_by_more_yes, count_by_more_no, count_by-le-length}
use Rattle.std.proofs.lemmas.List.FromFn.{map-range_with_len_more, get_or-map-range_with_len, length-map-range_with_len}
use Rattle.load_recs.specs.declared.items.SymbolItem.{SymbolItem}
use Rattle.member_model.specs.ReadBack.{is_gone, new_number}
use Rattle.mod_read.specs.Numbering.{is_kept, kept_before, counts_of, count_with}

pub kept_within : (symbols : List SymbolItem) (k : ℕ) → k ≤ length symbols → kept_before symbols k ≤ length symbols
kept_within symbols k within = shorter (count_by-le-length (is_kept symbols) (take k symbols)) (short k symbols)
  where
    short : (k : ℕ) (xs : List SymbolItem) → length (take k xs) ≤ length xs
    short k xs = subst (λ n. n ≤ length xs) (sym (length-take k xs)) (omega arith)

    shorter : {a b c : ℕ} → a ≤ b → b ≤ c → a ≤ c
    shorter h i = omega arith

count_step : (symbols : List SymbolItem) (k : ℕ) (d : SymbolItem) (gone : Bool) → is_gone symbols (get_or symbols k d) ≡ gone → k < length symbols
    → kept_before symbols (k + 1) ≡ (if gone then kept_before symbols k else kept_before symbols k + 1)
count_step symbols k d true is within = count_by_more_no (is_kept symbols) symbols k d within (ap not is)
count_step symbols k d false is within = count_by_more_yes (is_kept symbols) symbols k d within (ap not is)

pub kept_more : (symbols : List SymbolItem) (k : ℕ) (d : SymbolItem) → k < length symbols
    → count_with symbols (get_or symbols k d) (kept_before symbols k) ≡ kept_before symbols (k + 1)
kept_more symbols k d within = sym (count_step symbols k d (is_gone symbols (get_or symbols k d)) refl within)

pub counted_more : (symbols : List SymbolItem) (k : ℕ) (counts : List ℕ) (n : ℕ) → counts ≡ map (kept_before symbols) (range_with_len 0 (k + 1)) → n ≡ kept_before symbols (k + 1)
    → counts ++ n ∷ [] ≡ map (kept_before symbols) (range_with_len 0 (k + 1 + 1))
counted_more symbols k counts n before is =
    ap (λ xs. xs ++ n ∷ []) before
    ∙ ap (λ m. map (kept_before symbols) (range_with_len 0 (k + 1)) ++ m ∷ []) is
    ∙ sym (map-range_with_len_more (kept_before symbols) 0 (k + 1) (k + 1) (omega arith))

pub count_is : (symbols : List SymbolItem) (n d : ℕ) → get_or (counts_of symbols) (min (n - 1) (length symbols)) d ≡ new_number symbols n
unfolding counts_of
count_is symbols n d =
    get_or-map-range_with_len (kept_before symbols) 0 (length symbols + 1) (min (n - 1) (length symbols)) (min (n - 1) (length symbols)) d (omega arith) (omega arith)
    ∙ ap (λ xs. count_by (is_kept symbols) xs) (take_min (n - 1) symbols)

pub count_length : (symbols : List SymbolItem) → length (counts_of symbols) ≡ length symbols + 1
unfolding counts_of
count_length symbols = length-map-range_with_len (kept_before symbols) 0 (length symbols + 1)

pub least_within : (symbols : List SymbolItem) (counts : List ℕ) (n k len : ℕ) → k ≡ min n (length symbols) → counts ≡ counts_of symbols → len ≡ length counts → k < len
least_within symbols counts n k len least is size =
    let size_is : len ≡ length symbols + 1 = size ∙ (ap (λ xs. length xs) is ∙ count_length symbols) in
    omega arith

-- ---- the loop

pub kept_step : (symbols : List SymbolItem) (k : ℕ) (d : SymbolItem) (count next : ℕ) → k < length symbols → count ≡ kept_before symbols k
    → next ≡ count_with symbols (get_or symbols k d) count → next ≡ kept_before symbols (k + 1)
kept_step symbols k d count next within before is =
    is ∙ (ap (λ n. count_with symbols (get_or symbols k d) n) before ∙ kept_more symbols k d within)

pub counts_end : (symbols : List SymbolItem) (counts : List ℕ) (k : ℕ) → k ≡ length symbols → counts ≡ map (kept_before symbols) (range_with_len 0 (k + 1)) → counts ≡ counts_of symbols
unfolding counts_of
counts_end symbols counts k all is = is ∙ ap (λ n. map (kept_before symbols) (range_with_len 0 (n + 1))) all
