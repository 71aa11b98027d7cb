-- The first element of a list that passes a test, and elements of a list that all differ.
use Rattle.std.proofs.Common.{◌≡◌, ◌≢◌, ℕ, zero, suc, ◌+◌, ◌<◌, Bool, true, false, cond, if◌then◌else◌, List, [], ◌∷◌, map, filter, position, Some, None, slice_get, refl, sym, ap, ◌∙◌, subst, arith}
use Rattle.std.specs.List.{AllByRecursion as Each, position_from}
use Rattle.std.proofs.lemmas.Option.{none-some}
use Rattle.std.proofs.lemmas.Iterator.Adapters.{position_from-zero}
use Rattle.std.proofs.lemmas.Slice.Eq.{bytes_eq-Decides}
use Rattle.le_bytes.specs.declared.name.Name.{Name}
use Rattle.le_bytes.specs.Names.{name_eq}
use Rattle.member_laws.proofs.LoadingLists.{Pairs}

-- ---- the first of a list

-- the element at the place, which passes the test
pub record IsFirstAt {X : Type 0} (test : X → Bool) (xs : List X) (k : ℕ) : Type 0 where
  pub item : X
  pub there : slice_get xs k ≡ Some item
  pub passes : test item ≡ true

place_from : {X : Type 0} (test : X → Bool) (a : ℕ) (xs : List X) (i : ℕ) → position_from test a xs ≡ Some i → (k : ℕ) × (i ≡ a + k) × IsFirstAt test xs k
place_from test a [] i is = absurd (none-some i is)
place_from {X = X} test a (x ∷ xs) i is = by_test (test x) refl is (λ later. place_from test (a + 1) xs i later)
  where
    same : (a i : ℕ) → Some a ≡ Some i → i ≡ a + 0
    same a i is = let e : a ≡ i = cc in omega (arith, e)

    moved : (a i k : ℕ) → i ≡ a + 1 + k → i ≡ a + suc k
    moved a i k is = omega (arith, is)

    by_test : (b : Bool) → test x ≡ b → cond b (Some a) (position_from test (a + 1) xs) ≡ Some i
        → (position_from test (a + 1) xs ≡ Some i → (k : ℕ) × (i ≡ a + 1 + k) × IsFirstAt test xs k)
        → (k : ℕ) × (i ≡ a + k) × IsFirstAt test (x ∷ xs) k
    by_test true holds is later = (0, same a i is, record { item = x; there = refl; passes = holds })
    by_test false fails is later =
        let rest = later is in
        (suc rest.0, moved a i rest.0 rest.1, record { item = rest.2.item; there = rest.2.there; passes = rest.2.passes })

no_place_from : {X : Type 0} (test : X → Bool) (a : ℕ) (xs : List X) → position_from test a xs ≡ None → Each (λ x. test x ≡ false) xs
no_place_from test a [] none = tt
no_place_from {X = X} test a (x ∷ xs) none = by_test (test x) refl none (λ later. no_place_from test (a + 1) xs later)
  where
    by_test : (b : Bool) → test x ≡ b → cond b (Some a) (position_from test (a + 1) xs) ≡ None
        → (position_from test (a + 1) xs ≡ None → Each (λ x. test x ≡ false) xs) → Each (λ x. test x ≡ false) (x ∷ xs)
    by_test true holds none later = cc
    by_test false fails none later = (fails, later none)

pub first_at : {X : Type 0} (test : X → Bool) (xs : List X) (i : ℕ) → position test xs ≡ Some i → IsFirstAt test xs i
first_at test xs i is =
    let found = place_from test 0 xs i (sym (position_from-zero test xs) ∙ is) in
    subst (IsFirstAt test xs) (sym (found.1 ∙ plain found.0)) found.2
  where
    plain : (k : ℕ) → 0 + k ≡ k
    plain k = omega arith

pub none_at : {X : Type 0} (test : X → Bool) (xs : List X) → position test xs ≡ None → Each (λ x. test x ≡ false) xs
none_at test xs none = no_place_from test 0 xs (sym (position_from-zero test xs) ∙ none)

-- ---- names, and elements of which each has another

pub name_is : (m n : Name) → name_eq m n ≡ true → m ≡ n
name_is m n same = ap (λ (bytes : List ℕ). let name : Name = record { 0 = bytes } in name) ((bytes_eq-Decides m.0 n.0).0 same)

pub in_pairs : {X Y : Type 0} (f : X → Y) (p : X → Bool) (xs : List X) (i j : ℕ) (x y : X) → Pairs (λ a b. a ≢ b) (map f (filter p xs)) → i < j
    → slice_get xs i ≡ Some x → slice_get xs j ≡ Some y → p x ≡ true → p y ≡ true → f x ≢ f y
in_pairs f p [] i j x y pairs before one other holds passes = absurd (none-some x one)
in_pairs f p (z ∷ zs) i zero x y pairs before one other holds passes = absurd (omega (arith, before))
in_pairs {X = X} {Y = Y} f p (z ∷ zs) zero (suc j) x y pairs before one other holds passes =
    found (subst (λ b. Pairs (λ a b. a ≢ b) (map f (if b then z ∷ filter p zs else filter p zs))) (ap p (is z x one) ∙ holds) pairs).0
  where
    is : (z x : X) → Some z ≡ Some x → z ≡ x
    is z x same = cc

    each_kept : (zs : List X) (j : ℕ) → Each (λ b. f z ≢ b) (map f (filter p zs)) → slice_get zs j ≡ Some y → f z ≢ f y
    each_kept [] j each there = absurd (none-some y there)
    each_kept (w ∷ ws) zero each there =
        let kept = subst (λ b. Each (λ b. f z ≢ b) (map f (if b then w ∷ filter p ws else filter p ws))) (ap p (is w y there) ∙ passes) each in
        subst (λ v. f z ≢ f v) (is w y there) kept.0
    each_kept (w ∷ ws) (suc j) each there = each_kept ws j (rest (p w) each) there
      where
        rest : (b : Bool) → Each (λ b. f z ≢ b) (map f (if b then w ∷ filter p ws else filter p ws)) → Each (λ b. f z ≢ b) (map f (filter p ws))
        rest true each = each.1
        rest false each = each

    found : Each (λ b. f z ≢ b) (map f (filter p zs)) → f x ≢ f y
    found each = subst (λ v. f v ≢ f y) (is z x one) (each_kept zs j each other)
in_pairs f p (z ∷ zs) (suc i) (suc j) x y pairs before one other holds passes =
    in_pairs f p zs i j x y (rest (p z) pairs) (omega (arith, before)) one other holds passes
  where
    rest : (b : Bool) → Pairs (λ a b. a ≢ b) (map f (if b then z ∷ filter p zs else filter p zs)) → Pairs (λ a b. a ≢ b) (map f (filter p zs))
    rest true pairs = pairs.1
    rest false pairs = pairs
