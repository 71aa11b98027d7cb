-- Looking for a place by halving, and what a list in the order of names has there.
use Rattle.std.proofs.Common.{◌≡◌, ℕ, zero, suc, ◌+◌, ◌<◌, ◌≤◌, Bool, true, false, cond, List, [], ◌∷◌, length, get_or, Option, Some, None, refl, sym, ap, ◌∙◌, inl, inr, arith}
use Rattle.std.specs.Prelude.{find, slice_get}
use Rattle.std.specs.Option.{option_map_or}
use Rattle.std.specs.declared.cmp.Ordering.{Ordering}
use Rattle.std.specs.declared.cmp.Ordering.TheVariants.{Less, Equal, Greater}
use Rattle.std.specs.Ordering.{is_lt, is_eq, ordering_reverse}
use Rattle.std.proofs.lemmas.Bool.{cases_lt}
use Rattle.std.proofs.lemmas.Cmp.{nat_list_cmp_total}
use Rattle.std.proofs.lemmas.Map.Text.{is_eq-slice_cmp}
use Rattle.le_bytes.specs.declared.name.Name.{Name}
use Rattle.le_bytes.specs.Names.{name_eq}
use Rattle.pds_directory.specs.Parts.{is_below, name_cmp}
use Rattle.pds_directory.specs.Order.{ascends, ascends_after, place_of}
use Rattle.pds_directory.proofs.Halving.{both_true, goes_up, stays}

-- ---- the order of names

less_from : (o : Ordering) → is_lt o ≡ true → o ≡ Less
less_from Less e = refl
less_from Equal e = absurd cc
less_from Greater e = absurd cc

pub below_trans : (m n k : Name) → is_below m n ≡ true → is_below n k ≡ true → is_below m k ≡ true
below_trans m n k p q =
    ap is_lt (nat_list_cmp_total.trans m.0 n.0 k.0 (less_from (name_cmp m n) p) (less_from (name_cmp n k) q))

not_both : (o : Ordering) → is_eq o ≡ true → is_lt o ≡ false
not_both Less e = absurd cc
not_both Equal e = refl
not_both Greater e = absurd cc

nor_both : (o : Ordering) → is_lt o ≡ true → is_eq o ≡ false
nor_both Less e = refl
nor_both Equal e = absurd cc
nor_both Greater e = absurd cc

third : (o p : Ordering) → p ≡ ordering_reverse o → is_lt o ≡ false → is_eq o ≡ false → is_lt p ≡ true
third Less p r a b = absurd cc
third Equal p r a b = absurd cc
third Greater p r a b = ap is_lt r

pub same_not_below : (m n : Name) → name_eq m n ≡ true → is_below m n ≡ false
same_not_below m n e = not_both (name_cmp m n) (is_eq-slice_cmp m.0 n.0 ∙ e)

pub below_not_same : (m n : Name) → is_below n m ≡ true → name_eq m n ≡ false
below_not_same m n e =
    let turned : name_cmp m n ≡ ordering_reverse (name_cmp n m) = nat_list_cmp_total.antisymm m.0 n.0 in
    let greater : name_cmp m n ≡ Greater = turned ∙ ap ordering_reverse (less_from (name_cmp n m) e) in
    sym (is_eq-slice_cmp m.0 n.0) ∙ ap is_eq greater

pub else_below : (m n : Name) → is_below m n ≡ false → name_eq m n ≡ false → is_below n m ≡ true
else_below m n a b =
    third (name_cmp m n) (name_cmp n m) (nat_list_cmp_total.antisymm n.0 m.0) a (is_eq-slice_cmp m.0 n.0 ∙ b)

-- ---- a list in the order of names

after_all : {X : Type 0} (name : X → Name) (m : Name) (xs : List X) (k : ℕ) (d : X) → ascends_after name m xs ≡ true → k < length xs
    → is_below m (name (get_or xs k d)) ≡ true
after_all name m [] k d up lt = absurd (omega arith)
after_all name m (x ∷ xs) zero d up lt = let both = both_true (is_below m (name x)) (ascends_after name (name x) xs) up in both.0
after_all name m (x ∷ xs) (suc k) d up lt =
    let both = both_true (is_below m (name x)) (ascends_after name (name x) xs) up in
    below_trans m (name x) (name (get_or xs k d)) both.0 (after_all name (name x) xs k d both.1 (omega arith))

pub ascends_tail : {X : Type 0} (name : X → Name) (m : Name) (xs : List X) → ascends_after name m xs ≡ true → ascends name xs ≡ true
ascends_tail name m [] up = refl
ascends_tail name m (x ∷ xs) up = let both = both_true (is_below m (name x)) (ascends_after name (name x) xs) up in both.1

pub ascends_pairs : {X : Type 0} (name : X → Name) (xs : List X) (i j : ℕ) (d : X) → ascends name xs ≡ true → i < j → j < length xs
    → is_below (name (get_or xs i d)) (name (get_or xs j d)) ≡ true
ascends_pairs name [] i j d up lt here = absurd (omega arith)
ascends_pairs name (x ∷ xs) i zero d up lt here = absurd (omega arith)
ascends_pairs name (x ∷ xs) zero (suc j) d up lt here = after_all name (name x) xs j d up (omega arith)
ascends_pairs name (x ∷ xs) (suc i) (suc j) d up lt here = ascends_pairs name xs i j d (ascends_tail name (name x) xs up) (omega arith) (omega arith)

-- what is before one below n is below n too
pub names_before : {X : Type 0} (name : X → Name) (xs : List X) (n : Name) (mid : ℕ) (d : X) → ascends name xs ≡ true → mid < length xs
    → is_below (name (get_or xs mid d)) n ≡ true → (i : ℕ) → i ≤ mid → is_below (name (get_or xs i d)) n ≡ true
names_before name xs n mid d up lt below i le =
    elim (cases_lt i mid) [
      | inl before ↦ below_trans (name (get_or xs i d)) (name (get_or xs mid d)) n (ascends_pairs name xs i mid d up before lt) below
      | inr same ↦ let e : i ≡ mid = omega arith in rw e below
    ]

none_above : {X : Type 0} (name : X → Name) (n m : Name) (xs : List X) → is_below n m ≡ true → ascends_after name m xs ≡ true
    → find (λ (x : X). name_eq (name x) n) xs ≡ None
none_above name n m [] below up = refl
none_above name n m (x ∷ xs) below up =
    let both = both_true (is_below m (name x)) (ascends_after name (name x) xs) up in
    let here = below_trans n m (name x) below both.0 in
    rw (below_not_same (name x) n here) (none_above name n (name x) xs here both.1)

-- what stands at a place, if it has the name
abbrev pub if_named : {X : Type 0} → (X → Name) → Name → Option X → Option X
if_named name n None = None
if_named name n (Some x) = cond (name_eq (name x) n) (Some x) None

found_here : {X : Type 0} (name : X → Name) (n : Name) (x : X) (xs : List X) (same below : Bool) → same ≡ name_eq (name x) n → below ≡ is_below (name x) n
    → ascends_after name (name x) xs ≡ true
    → (ascends name xs ≡ true → find (λ (y : X). name_eq (name y) n) xs ≡ if_named name n (slice_get xs (place_of name xs n)))
    → cond same (Some x) (find (λ (y : X). name_eq (name y) n) xs) ≡ if_named name n (slice_get (x ∷ xs) (cond below (1 + place_of name xs n) 0))
found_here name n x xs true true s b up ih = let no = same_not_below (name x) n (sym s) in absurd (let e : true ≡ false = b ∙ no in cc)
found_here name n x xs true false s b up ih = rw (← s) refl
found_here name n x xs false true s b up ih =
    let e : 1 + place_of name xs n ≡ suc (place_of name xs n) = omega arith in
    rw e (ih (ascends_tail name (name x) xs up))
found_here name n x xs false false s b up ih =
    rw (← s) (none_above name n (name x) xs (else_below (name x) n (sym b) (sym s)) up)

-- the first with a name stands at its place
pub find_is : {X : Type 0} (name : X → Name) (xs : List X) (n : Name) → ascends name xs ≡ true
    → find (λ (x : X). name_eq (name x) n) xs ≡ if_named name n (slice_get xs (place_of name xs n))
find_is name [] n up = refl
find_is name (x ∷ xs) n up =
    found_here name n x xs (name_eq (name x) n) (is_below (name x) n) refl refl up (find_is name xs n)

-- ---- one step of halving

pub name_up : {X : Type 0} (name : X → Name) (xs : List X) (n : Name) (mid high : ℕ) (d : X) → ascends name xs ≡ true → mid < length xs
    → is_below (name (get_or xs mid d)) n ≡ true → place_of name xs n ≤ high → high ≤ length xs
    → (mid + 1 ≤ place_of name xs n) × (place_of name xs n ≤ high) × (high ≤ length xs)
name_up name xs n mid high d up lt below le within =
    (goes_up (λ x. is_below (name x) n) xs mid d (names_before name xs n mid d up lt below) lt, le, within)

pub name_down : {X : Type 0} (name : X → Name) (xs : List X) (n : Name) (low mid : ℕ) (d : X) → mid < length xs
    → is_below (name (get_or xs mid d)) n ≡ false → low ≤ place_of name xs n
    → (low ≤ place_of name xs n) × (place_of name xs n ≤ mid) × (mid ≤ length xs)
name_down name xs n low mid d lt above le = (le, stays (λ x. is_below (name x) n) xs mid d above, omega arith)

-- ---- what stands at the place

pub slice_get_past : {X : Type 0} (xs : List X) (k : ℕ) → length xs ≤ k → slice_get xs k ≡ None
slice_get_past [] k le = refl
slice_get_past (x ∷ xs) zero le = absurd (omega arith)
slice_get_past (x ∷ xs) (suc k) le = slice_get_past xs k (omega arith)

abbrev pub is_named_there : {X : Type 0} → (X → Name) → Name → Option X → Bool
is_named_there name n o = option_map_or (λ x. name_eq (name x) n) o false

named_same : {X : Type 0} (name : X → Name) (n : Name) (o : Option X) → is_named_there name n o ≡ true → if_named name n o ≡ o
named_same name n None e = absurd cc
named_same name n (Some x) e = rw e refl

named_none : {X : Type 0} (name : X → Name) (n : Name) (o : Option X) → is_named_there name n o ≡ false → if_named name n o ≡ None
named_none name n None e = refl
named_none name n (Some x) e = rw e refl

pub row_found : {X : Type 0} (name : X → Name) (xs : List X) (n : Name) (k : ℕ) → ascends name xs ≡ true → k ≡ place_of name xs n
    → is_named_there name n (slice_get xs k) ≡ true → (k < length xs) × (slice_get xs k ≡ find (λ (x : X). name_eq (name x) n) xs)
row_found {X = X} name xs n k up here same =
    let found : slice_get xs k ≡ find (λ (x : X). name_eq (name x) n) xs =
    sym (named_same name n (slice_get xs k) same) ∙ sym (find_is name xs n up ∙ ap (λ (j : ℕ). if_named name n (slice_get xs j)) (sym here)) in (
      elim (cases_lt k (length xs)) [
        | inl lt ↦ lt
        | inr le ↦ absurd (let e : false ≡ true = ap (is_named_there name n) (sym (slice_get_past xs k le)) ∙ same in cc)
      ],
      found,
    )

pub row_wanting : {X : Type 0} (name : X → Name) (xs : List X) (n : Name) (k : ℕ) → ascends name xs ≡ true → k ≡ place_of name xs n
    → is_named_there name n (slice_get xs k) ≡ false → find (λ (x : X). name_eq (name x) n) xs ≡ None
row_wanting name xs n k up here other =
    find_is name xs n up ∙ ap (λ (j : ℕ). if_named name n (slice_get xs j)) (sym here) ∙ named_none name n (slice_get xs k) other
