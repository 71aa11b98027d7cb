-- Cutting the items is cutting their bytes, where a whole record has 240 of them.
use Rattle.std.proofs.Common.{◌≡◌, ℕ, zero, suc, ◌+◌, ◌-◌, ◌*◌, ◌/◌, ◌<◌, ◌≤◌, List, [], ◌∷◌, ◌++◌, map, length, take, drop, All, get_or, refl, sym, ap, ◌∙◌, arith}
use Rattle.std.specs.List.{range_with_len, enumerate_from}
use Rattle.std.proofs.lemmas.List.{take_all, drop_all, length-append}
use Rattle.std.proofs.lemmas.List.Elements.{All-head, All-tail, All-drop}
use Rattle.load_recs.specs.Records.{Record}
use Rattle.member_model.specs.Cuts.{together, cuts, cut_at}
use Rattle.member_model.specs.SymbolList.{head_records}
use Rattle.mod_heads.specs.declared.cutting.Kind.{Kind}
use Rattle.mod_heads.specs.declared.cutting.Kind.TheVariants.{Symbol, Scatter, Translation, Note}
use Rattle.mod_heads.specs.Cut.{record_as, size_of, most_in, cut_record, cut_records}

-- every item has n bytes
abbrev pub HaveSize : ℕ → List (List ℕ) → Type 0
HaveSize n items = All (λ x. length x ≡ n) items

-- ---- the front and the rest of lists that stand one after the other

front_past : (xs ys : List ℕ) (m k : ℕ) → k ≡ length xs + m → take k (xs ++ ys) ≡ xs ++ take m ys
front_past [] ys m k is = let same : k ≡ m = omega arith in ap (λ j. take j ys) same
front_past (x ∷ xs) ys m zero is = absurd (omega (arith, is))
front_past (x ∷ xs) ys m (suc k) is = ap (λ l. x ∷ l) (front_past xs ys m k (omega (arith, is)))

rest_past : (xs ys : List ℕ) (m k : ℕ) → k ≡ length xs + m → drop k (xs ++ ys) ≡ drop m ys
rest_past [] ys m k is = let same : k ≡ m = omega arith in ap (λ j. drop j ys) same
rest_past (x ∷ xs) ys m zero is = absurd (omega (arith, is))
rest_past (x ∷ xs) ys m (suc k) is = rest_past xs ys m k (omega (arith, is))

none_of : (n : ℕ) → n * 0 ≡ 0
none_of n = grind arith

one_more : (n k : ℕ) → n * suc k ≡ n + n * k
one_more n k = grind arith

pub together-take : (n k : ℕ) (items : List (List ℕ)) → HaveSize n items → together (take k items) ≡ take (n * k) (together items)
together-take n zero items sized = ap (λ m. take m (together items)) (sym (none_of n))
together-take n (suc k) [] sized = sym (take_all (n * suc k) [] (omega arith))
together-take n (suc k) (x ∷ xs) sized =
    let own : length x ≡ n = All-head (λ y. length y ≡ n) x xs sized in
    ap (λ l. x ++ l) (together-take n k xs (All-tail (λ y. length y ≡ n) x xs sized))
    ∙ sym (front_past x (together xs) (n * k) (n * suc k) (one_more n k ∙ ap (λ m. m + n * k) (sym own)))

pub together-drop : (n k : ℕ) (items : List (List ℕ)) → HaveSize n items → together (drop k items) ≡ drop (n * k) (together items)
together-drop n zero items sized = ap (λ m. drop m (together items)) (sym (none_of n))
together-drop n (suc k) [] sized = sym (drop_all (n * suc k) [] (omega arith))
together-drop n (suc k) (x ∷ xs) sized =
    let own : length x ≡ n = All-head (λ y. length y ≡ n) x xs sized in
    together-drop n k xs (All-tail (λ y. length y ≡ n) x xs sized)
    ∙ sym (rest_past x (together xs) (n * k) (n * suc k) (one_more n k ∙ ap (λ m. m + n * k) (sym own)))

pub together-long : (n : ℕ) (items : List (List ℕ)) → HaveSize n items → length (together items) ≡ n * length items
together-long n [] sized = sym (none_of n)
together-long n (x ∷ xs) sized =
    let own : length x ≡ n = All-head (λ y. length y ≡ n) x xs sized in
    length-append x (together xs)
    ∙ (ap (λ m. m + length (together xs)) own
    ∙ (ap (λ m. n + m) (together-long n xs (All-tail (λ y. length y ≡ n) x xs sized)) ∙ sym (one_more n (length xs))))

-- ---- one record

regrouped : (per size k : ℕ) → size * (per * k) ≡ size * per * k
regrouped per size k = grind arith

cut_together : (per size whole k : ℕ) (items : List (List ℕ)) → whole ≡ size * per → HaveSize size items
    → together (cut_at per items k) ≡ take whole (drop (whole * k) (together items))
cut_together per size whole k items is sized =
    together-take size per (drop (per * k) items) (All-drop (λ y. length y ≡ size) (per * k) items sized)
    ∙ (ap (take (size * per)) (together-drop size (per * k) items sized)
    ∙ (ap (λ m. take (size * per) (drop m (together items))) (regrouped per size k)
    ∙ ap (λ m. take m (drop (m * k) (together items))) (sym is)))

-- ---- all of them

records_numbered : (make : ℕ → List ℕ → Record) (per size whole : ℕ) (items : List (List ℕ)) → whole ≡ size * per → HaveSize size items → (a n : ℕ)
    → map (λ (k, some). make (k * per + 1) (together some)) (enumerate_from a (map (cut_at per items) (range_with_len a n)))
    ≡ map (λ k. make (k * per + 1) (take whole (drop (whole * k) (together items)))) (range_with_len a n)
records_numbered make per size whole items is sized a zero = refl
records_numbered make per size whole items is sized a (suc n) =
    ap (λ l. make (a * per + 1) l ∷ map (λ (k, some). make (k * per + 1) (together some)) (enumerate_from (a + 1) (map (cut_at per items) (range_with_len (a + 1) n))))
    (cut_together per size whole a items is sized)
    ∙ ap (λ l. make (a * per + 1) (take whole (drop (whole * a) (together items))) ∷ l) (records_numbered make per size whole items is sized (a + 1) n)

heads_cut : (make : ℕ → List ℕ → Record) (per size whole count : ℕ) (items : List (List ℕ)) → whole ≡ size * per → HaveSize size items
    → (length items + (per - 1)) / per ≡ count
    → head_records make per items ≡ map (λ k. make (k * per + 1) (take whole (drop (whole * k) (together items)))) (range_with_len 0 count)
heads_cut make per size whole count items is sized counted =
    records_numbered make per size whole items is sized 0 ((length items + (per - 1)) / per)
    ∙ ap (λ n. map (λ k. make (k * per + 1) (take whole (drop (whole * k) (together items)))) (range_with_len 0 n)) counted

by_15 : (n l : ℕ) → l ≡ 16 * n → (n + 14) / 15 ≡ (l + 239) / 240
by_15 n l is = omega arith

by_60 : (n l : ℕ) → l ≡ 4 * n → (n + 59) / 60 ≡ (l + 239) / 240
by_60 n l is = omega arith

by_120 : (n l : ℕ) → l ≡ 2 * n → (n + 119) / 120 ≡ (l + 239) / 240
by_120 n l is = omega arith

by_20 : (n l : ℕ) → l ≡ 12 * n → (n + 19) / 20 ≡ (l + 239) / 240
by_20 n l is = omega arith

pub heads_are : (kind : Kind) (items : List (List ℕ)) → HaveSize (size_of kind) items
    → head_records (record_as kind) (most_in kind) items ≡ cut_records kind (together items)
unfolding cut_records
heads_are Symbol items sized =
    heads_cut (record_as Symbol) 15 16 240 ((length (together items) + 239) / 240) items refl sized (by_15 (length items) (length (together items)) (together-long 16 items sized))
heads_are Scatter items sized =
    heads_cut (record_as Scatter) 60 4 240 ((length (together items) + 239) / 240) items refl sized (by_60 (length items) (length (together items)) (together-long 4 items sized))
heads_are Translation items sized =
    heads_cut (record_as Translation) 120 2 240 ((length (together items) + 239) / 240) items refl sized (by_120 (length items) (length (together items)) (together-long 2 items sized))
heads_are Note items sized =
    heads_cut (record_as Note) 20 12 240 ((length (together items) + 239) / 240) items refl sized (by_20 (length items) (length (together items)) (together-long 12 items sized))
