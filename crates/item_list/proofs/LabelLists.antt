-- The lists of labels, while items come in turn.
use Rattle.std.proofs.Common.{◌≡◌, ◌≢◌, ℕ, zero, suc, ◌+◌, ◌-◌, ◌<◌, ◌≤◌, Bool, true, false, ◌&&◌, ◌==◌, if◌then◌else◌, List, [], ◌∷◌, ◌++◌, map, filter, length, fold, replicate, get_or, drop, set, refl, sym, ap, ◌∙◌, inl, inr, arith, append_assoc}
use Rattle.std.specs.Prelude.{nat_lt, nat_le}
use Rattle.std.specs.List.{range_with_len}
use Rattle.std.proofs.lemmas.Bool.Decides.{eqb_tells}
use Rattle.std.proofs.lemmas.Bool.{cases_Bool, ltb-true, leb-true, ne_eqb, and_parts, lt-ltb, le-leb}
use Rattle.std.proofs.lemmas.List.{length-set, get_or-set_same, get_or-set_other, ext_get_or, append-nil, map-append}
use Rattle.std.proofs.lemmas.List.Elements.{filter-append}
use Rattle.std.proofs.lemmas.List.FromFn.{length-map-range_with_len, get_or-map-range_with_len}
use Rattle.load_recs.specs.declared.items.SymbolKind.{SymbolKind}
use Rattle.load_recs.specs.declared.items.SymbolKind.TheVariants.{Sd, Er, Lr, Pc, Cm, Pr, Null, Wx}
use Rattle.load_recs.specs.declared.items.SymbolItem.{SymbolItem}
use Rattle.list_text.specs.declared.rows.MapRow.{MapRow}
use Rattle.item_list.specs.Maps.{label_row, is_label_kind, is_label_of, label_rows, put_in, noted_as, noted}

-- ---- ranges

-- one element of the list becomes another
set_range : {X : Type 0} (f g : ℕ → X) (a n j : ℕ) (v d : X) → j < n → g (a + j) ≡ v → ((s : ℕ) → s ≢ a + j → g s ≡ f s)
    → set (map f (range_with_len a n)) j v ≡ map g (range_with_len a n)
set_range {X = X} f g a n j v d low is other =
    ext_get_or d (set (map f (range_with_len a n)) j v) (map g (range_with_len a n))
    (length-set (map f (range_with_len a n)) j v ∙ (length-map-range_with_len f a n ∙ sym (length-map-range_with_len g a n)))
    (λ k inside. at k (omega (arith, length-set (map f (range_with_len a n)) j v, length-map-range_with_len f a n)))
  where
    at : (k : ℕ) → k < n → get_or (set (map f (range_with_len a n)) j v) k d ≡ get_or (map g (range_with_len a n)) k d
    at k inside =
        elim (eqb_tells k j) as (λ _. get_or (set (map f (range_with_len a n)) j v) k d ≡ get_or (map g (range_with_len a n)) k d) [
          | inl w ↦
              ap (λ i. get_or (set (map f (range_with_len a n)) j v) i d) w.1
              ∙ (get_or-set_same (map f (range_with_len a n)) j v d (omega (arith, low, length-map-range_with_len f a n))
              ∙ (sym is ∙ sym (get_or-map-range_with_len g a n k (a + j) d inside (omega (arith, w.1)))))
          | inr w ↦
              get_or-set_other (map f (range_with_len a n)) j k v d w.1
              ∙ (get_or-map-range_with_len f a n k (a + k) d inside refl
              ∙ (sym (other (a + k) (λ e. w.1 (omega (arith, e)))) ∙ sym (get_or-map-range_with_len g a n k (a + k) d inside refl)))
        ]

-- two functions that agree on a range
same_range : {X : Type 0} (f g : ℕ → X) (a n : ℕ) → ((k : ℕ) → a ≤ k → k < a + n → f k ≡ g k) → map f (range_with_len a n) ≡ map g (range_with_len a n)
same_range f g a zero h = refl
same_range f g a (suc n) h =
    let first : f a ≡ g a = h a (omega arith) (omega arith) in
    let rest = same_range f g (a + 1) n (λ k low high. h k (omega arith) (omega arith)) in
    ap (λ y. y ∷ map f (range_with_len (a + 1) n)) first ∙ ap (λ l. g a ∷ l) rest

-- ---- one item more

added : (b : Bool) (f : SymbolItem → MapRow) (ys : List SymbolItem) (x : SymbolItem)
    → map f (ys ++ (if b then x ∷ [] else [])) ≡ map f ys ++ (if b then f x ∷ [] else [])
added true f ys x = map-append f ys (x ∷ [])
added false f ys x = ap (λ l. map f l) (append-nil ys) ∙ sym (append-nil (map f ys))

rows_more : (origin : ℕ) (before : List SymbolItem) (x : SymbolItem) (n : ℕ)
    → label_rows origin (before ++ x ∷ []) n ≡ label_rows origin before n ++ (if is_label_of n x then label_row origin x ∷ [] else [])
rows_more origin before x n =
    ap (λ l. map (label_row origin) l) (filter-append (is_label_of n) before (x ∷ []))
    ∙ added (is_label_of n x) (label_row origin) (filter (is_label_of n) before) x

-- nothing is put into the list of another section
rows_same : (origin : ℕ) (before : List SymbolItem) (x : SymbolItem) (n : ℕ) → is_label_of n x ≡ false
    → label_rows origin before n ≡ label_rows origin (before ++ x ∷ []) n
rows_same origin before x n e =
    sym (rows_more origin before x n ∙ ap (λ (b : Bool). label_rows origin before n ++ (if b then label_row origin x ∷ [] else [])) e
    ∙ append-nil (label_rows origin before n))

rows_put : (origin : ℕ) (before : List SymbolItem) (x : SymbolItem) (n : ℕ) → is_label_of n x ≡ true
    → label_rows origin (before ++ x ∷ []) n ≡ label_rows origin before n ++ label_row origin x ∷ []
rows_put origin before x n e =
    rows_more origin before x n ∙ ap (λ (b : Bool). label_rows origin before n ++ (if b then label_row origin x ∷ [] else [])) e

-- the lists of the items so far
abbrev pub lists_of : ℕ → List SymbolItem → ℕ → List (List MapRow)
lists_of origin before n = map (label_rows origin before) (range_with_len 1 n)

-- an item that is no label
other_item : (origin : ℕ) (before : List SymbolItem) (x : SymbolItem) (n : ℕ) → is_label_kind x.kind ≡ false
    → lists_of origin before n ≡ lists_of origin (before ++ x ∷ []) n
other_item origin before x n e =
    same_range (label_rows origin before) (label_rows origin (before ++ x ∷ [])) 1 n
    (λ k low high. rows_same origin before x k (ap (λ (b : Bool). b && x.length == k) e))

label_here : (x : SymbolItem) (n : ℕ) → is_label_kind x.kind ≡ true → x.length ≡ n → is_label_of n x ≡ true
label_here x n e same = rw e (rw same (eqb-refl n))
  where
    eqb-refl : (n : ℕ) → (n == n) ≡ true
    eqb-refl n = grind arith

label_elsewhere : (x : SymbolItem) (n : ℕ) → n ≢ x.length → is_label_of n x ≡ false
label_elsewhere x n other = rw (ne_eqb x.length n (λ e. other (sym e))) (and-false (is_label_kind x.kind))
  where
    and-false : (b : Bool) → (b && false) ≡ false
    and-false true = refl
    and-false false = refl

inside_list : (origin : ℕ) (before : List SymbolItem) (x : SymbolItem) (n j : ℕ) → is_label_kind x.kind ≡ true → j < n → x.length ≡ 1 + j
    → set (lists_of origin before n) j (get_or (lists_of origin before n) j [] ++ label_row origin x ∷ []) ≡ lists_of origin (before ++ x ∷ []) n
inside_list origin before x n j e low is =
    set_range (label_rows origin before) (label_rows origin (before ++ x ∷ [])) 1 n j
    (get_or (lists_of origin before n) j [] ++ label_row origin x ∷ []) [] low
    (rows_put origin before x (1 + j) (label_here x (1 + j) e is)
    ∙ ap (λ l. l ++ label_row origin x ∷ []) (sym (get_or-map-range_with_len (label_rows origin before) 1 n j (1 + j) [] low refl)))
    (λ s apart. sym (rows_same origin before x s (label_elsewhere x s (λ same. apart (same ∙ is)))))

-- a label whose section is no item
outside_list : (origin : ℕ) (before : List SymbolItem) (x : SymbolItem) (n : ℕ) → ((k : ℕ) → 1 ≤ k → k < 1 + n → k ≢ x.length)
    → lists_of origin before n ≡ lists_of origin (before ++ x ∷ []) n
outside_list origin before x n apart =
    same_range (label_rows origin before) (label_rows origin (before ++ x ∷ [])) 1 n
    (λ k low high. rows_same origin before x k (label_elsewhere x k (apart k low high)))

put_true : (lists : List (List MapRow)) (m : ℕ) (row : MapRow) (b : Bool) → b ≡ true
    → (if b then set lists (m - 1) (get_or lists (m - 1) [] ++ row ∷ []) else lists) ≡ set lists (m - 1) (get_or lists (m - 1) [] ++ row ∷ [])
put_true lists m row b e = rw e refl

put_false : (lists : List (List MapRow)) (m : ℕ) (row : MapRow) (b : Bool) → b ≡ false
    → (if b then set lists (m - 1) (get_or lists (m - 1) [] ++ row ∷ []) else lists) ≡ lists
put_false lists m row b e = rw e refl

label_item : (origin : ℕ) (before : List SymbolItem) (x : SymbolItem) (n : ℕ) → is_label_kind x.kind ≡ true
    → put_in (lists_of origin before n) x.length (label_row origin x) ≡ lists_of origin (before ++ x ∷ []) n
label_item origin before x n e =
    let lists : List (List MapRow) = lists_of origin before n in
    let size : length lists ≡ n = length-map-range_with_len (label_rows origin before) 1 n in
    elim (cases_Bool (nat_lt 0 x.length && nat_le x.length (length lists))) as (λ _. put_in lists x.length (label_row origin x) ≡ lists_of origin (before ++ x ∷ []) n) [
      | inl yes_is ↦
          (let p = and_parts (nat_lt 0 x.length) (nat_le x.length (length lists)) yes_is in
          let low : 0 < x.length = ltb-true 0 x.length p.0 in
          let high : x.length ≤ length lists = leb-true x.length (length lists) p.1 in
          put_true lists x.length (label_row origin x) _ yes_is
          ∙ inside_list origin before x n (x.length - 1) e (omega arith) (omega arith))
      | inr no_is ↦
          put_false lists x.length (label_row origin x) _ no_is
          ∙ outside_list origin before x n (λ k low high same.
          absurd (clash x.length (length lists) no_is (omega arith) (omega arith)))
    ]
  where
    clash : (m size : ℕ) → (nat_lt 0 m && nat_le m size) ≡ false → 0 < m → m ≤ size → ⊥
    clash m size e low high = grind (arith, lt-ltb, le-leb)

item_as : (origin : ℕ) (before : List SymbolItem) (x : SymbolItem) (n : ℕ) (kind : SymbolKind) → x.kind ≡ kind
    → noted_as origin (lists_of origin before n) x kind ≡ lists_of origin (before ++ x ∷ []) n
item_as origin before x n Lr e = label_item origin before x n (ap is_label_kind e)
item_as origin before x n Sd e = other_item origin before x n (ap is_label_kind e)
item_as origin before x n Er e = other_item origin before x n (ap is_label_kind e)
item_as origin before x n Pc e = other_item origin before x n (ap is_label_kind e)
item_as origin before x n Cm e = other_item origin before x n (ap is_label_kind e)
item_as origin before x n Pr e = other_item origin before x n (ap is_label_kind e)
item_as origin before x n Null e = other_item origin before x n (ap is_label_kind e)
item_as origin before x n Wx e = other_item origin before x n (ap is_label_kind e)

one_more : (origin : ℕ) (before : List SymbolItem) (x : SymbolItem) (n : ℕ)
    → noted origin (lists_of origin before n) x ≡ lists_of origin (before ++ x ∷ []) n
unfolding noted
one_more origin before x n = item_as origin before x n x.kind refl

all_noted : (origin : ℕ) (before xs : List SymbolItem) (n : ℕ)
    → fold (noted origin) (lists_of origin before n) xs ≡ lists_of origin (before ++ xs) n
all_noted origin before [] n = ap (λ l. lists_of origin l n) (sym (append-nil before))
all_noted origin before (x ∷ xs) n =
    ap (λ lists. fold (noted origin) lists xs) (one_more origin before x n)
    ∙ all_noted origin (before ++ x ∷ []) xs n ∙ ap (λ l. lists_of origin l n) (append_assoc before (x ∷ []) xs)

none_noted : (origin a n : ℕ) → replicate n [] ≡ map (label_rows origin []) (range_with_len a n)
none_noted origin a zero = refl
none_noted origin a (suc n) = ap (λ l. [] ∷ l) (none_noted origin (a + 1) n)

-- the lists after all items
pub lists_made : (origin : ℕ) (symbols : List SymbolItem) (n : ℕ)
    → fold (noted origin) (replicate n []) symbols ≡ map (label_rows origin symbols) (range_with_len 1 n)
lists_made origin symbols n = ap (λ lists. fold (noted origin) lists symbols) (none_noted origin 1 n) ∙ all_noted origin [] symbols n

-- after the last item
none_left : (xs : List SymbolItem) (i : ℕ) → length xs ≤ i → drop i xs ≡ []
none_left [] zero h = refl
none_left [] (suc i) h = refl
none_left (x ∷ xs) zero h = absurd (omega arith)
none_left (x ∷ xs) (suc i) h = none_left xs i (omega arith)

pub all_folded : (origin : ℕ) (now before : List (List MapRow)) (symbols : List SymbolItem) (i : ℕ) → length symbols ≤ i
    → fold (noted origin) now (drop i symbols) ≡ fold (noted origin) before symbols → now ≡ fold (noted origin) before symbols
all_folded origin now before symbols i h e =
    sym (ap (λ xs. fold (noted origin) now xs) (none_left symbols i h)) ∙ e
