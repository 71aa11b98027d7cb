-- What holds of each element of a list and each one after it.
use Rattle.std.proofs.Common.{◌≡◌, ℕ, zero, suc, ◌+◌, ◌<◌, ◌≤◌, Bool, true, false, cond, List, [], ◌∷◌, ◌++◌, map, filter, length, ◌⊎◌, inl, inr, refl, sym, ap, subst, ◌∙◌, arith}
use Rattle.std.specs.Bool.{⊤}
use Rattle.std.specs.Prelude.{AllPairs, slice_index_or}
use Rattle.std.specs.List.{AllByRecursion, flat_map}
use Rattle.linking_model.specs.Names.{inserted, in_order}
use Rattle.std.proofs.lemmas.List.Elements.{recursion_from_All}
use Rattle.member_laws.proofs.PartItems.{each-inserted, each-in_order}
use Rattle.member_laws.proofs.Lists.{each-append, each-filter, each-made, each-map, each-weaker}
use Rattle.member_laws.proofs.Membership.{Has, has-each, each-of, has-left, has-right, from-filter, from-flat_map}

-- R holds of each element and each one after it
abbrev pub Pairs : {X : Type 0} → (X → X → Type 0) → List X → Type 0
Pairs R [] = ⊤
Pairs R (x ∷ xs) = AllByRecursion (R x) xs × Pairs R xs

pub pairs-append : {X : Type 0} (R : X → X → Type 0) (xs ys : List X) → Pairs R xs → Pairs R ys → ((x y : X) → Has xs x → Has ys y → R x y) → Pairs R (xs ++ ys)
pairs-append R [] ys a b across = b
pairs-append R (x ∷ xs) ys a b across =
    (each-append (R x) xs ys a.0 (each-of (R x) ys (λ y there. across x y (inl refl) there)), pairs-append R xs ys a.1 b (λ z y h k. across z y (inr h) k))

pub pairs-left : {X : Type 0} (R : X → X → Type 0) (xs ys : List X) → Pairs R (xs ++ ys) → Pairs R xs
pairs-left R [] ys all = tt
pairs-left R (x ∷ xs) ys all = (each-of (R x) xs (λ y there. has-each (R x) (xs ++ ys) y all.0 (has-left xs ys y there)), pairs-left R xs ys all.1)

pub pairs-right : {X : Type 0} (R : X → X → Type 0) (xs ys : List X) → Pairs R (xs ++ ys) → Pairs R ys
pairs-right R [] ys all = all
pairs-right R (x ∷ xs) ys all = pairs-right R xs ys all.1

pub pairs-across : {X : Type 0} (R : X → X → Type 0) (xs ys : List X) (x y : X) → Pairs R (xs ++ ys) → Has xs x → Has ys y → R x y
pairs-across R [] ys x y all there other = absurd there
pairs-across R (z ∷ zs) ys x y all there other =
    elim there [
      | inl e ↦ subst (λ w. R w y) e (has-each (R z) (zs ++ ys) y all.0 (has-right zs ys y other))
      | inr later ↦ pairs-across R zs ys x y all.1 later other
    ]

pub pairs-filter : {X : Type 0} (R : X → X → Type 0) (test : X → Bool) (xs : List X) → Pairs R xs → Pairs R (filter test xs)
pairs-filter R test [] all = tt
pairs-filter R test (x ∷ xs) all =
    elim (test x) as (λ b. Pairs R (cond b (x ∷ filter test xs) (filter test xs))) [
      | true ↦ (each-filter (R x) test xs all.0, pairs-filter R test xs all.1)
      | false ↦ pairs-filter R test xs all.1
    ]

pub pairs-map : {X Y : Type 0} (R : Y → Y → Type 0) (f : X → Y) (xs : List X) → Pairs (λ x y. R (f x) (f y)) xs → Pairs R (map f xs)
pairs-map R f [] all = tt
pairs-map R f (x ∷ xs) all = (each-map (R (f x)) f xs all.0, pairs-map R f xs all.1)

pub pairs-weaker : {X : Type 0} (R S : X → X → Type 0) (xs : List X) → ((x y : X) → R x y → S x y) → Pairs R xs → Pairs S xs
pairs-weaker R S [] weaker all = tt
pairs-weaker R S (x ∷ xs) weaker all = (each-weaker (R x) (S x) (weaker x) xs all.0, pairs-weaker R S xs weaker all.1)

-- lists of which each is of pairs, as are all elements of two of them
pub pairs-flat : {X Y : Type 0} (R : Y → Y → Type 0) (S : X → X → Type 0) (f : X → List Y) (xs : List X) → Pairs S xs → ((x : X) → Has xs x → Pairs R (f x))
    → ((x y : X) (a b : Y) → Has xs x → Has xs y → S x y → Has (f x) a → Has (f y) b → R a b) → Pairs R (flat_map f xs)
pairs-flat R S f [] apart each across = tt
pairs-flat R S f (x ∷ xs) apart each across =
    pairs-append R (f x) (flat_map f xs) (each x (inl refl))
    (pairs-flat R S f xs apart.1 (λ y there. each y (inr there)) (λ y z a b h k s p q. across y z a b (inr h) (inr k) s p q))
    (λ a b h k.
    let found = from-flat_map f xs b k in
    across x found.source a b (inl refl) (inr found.there) (has-each (S x) xs found.source apart.0 found.there) h found.within)

-- ---- in another order

pairs-inserted : {X : Type 0} (R : X → X → Type 0) (before : X → X → Bool) (x : X) (ys : List X) → ((a b : X) → R a b → R b a) → AllByRecursion (R x) ys → Pairs R ys → Pairs R (inserted before x ys)
pairs-inserted R before x [] both own all = (tt, tt)
pairs-inserted R before x (y ∷ ys) both own all =
    elim (before y x) as (λ b. Pairs R (cond b (y ∷ inserted before x ys) (x ∷ y ∷ ys))) [
      | true ↦ (each-inserted (R y) before x ys (both x y own.0) all.0, pairs-inserted R before x ys both own.1 all.1)
      | false ↦ (own, all)
    ]

pub pairs-in_order : {X : Type 0} (R : X → X → Type 0) (before : X → X → Bool) (xs : List X) → ((a b : X) → R a b → R b a) → Pairs R xs → Pairs R (in_order before xs)
pairs-in_order R before [] both all = tt
pairs-in_order R before (x ∷ xs) both all =
    pairs-inserted R before x (in_order before xs) both (each-in_order (R x) before xs all.0) (pairs-in_order R before xs both all.1)

-- two elements that a test tells apart
pub pairs-told : {X : Type 0} (R : X → X → Type 0) (test : X → Bool) (xs : List X) (a b : X) → ((a b : X) → R a b → R b a) → Pairs R xs → Has xs a → Has xs b → test a ≡ true → test b ≡ false → R a b
pairs-told R test [] a b both all there other passes fails = absurd there
pairs-told R test (x ∷ xs) a b both all there other passes fails =
    elim there [
      | inl e ↦ elim other [
        | inl f ↦ absurd (differ (sym passes ∙ ap test (sym e ∙ f) ∙ fails))
        | inr k ↦ subst (λ z. R z b) e (has-each (R x) xs b all.0 k)
      ]
      | inr h ↦ elim other [
        | inl f ↦ both b a (subst (λ z. R z a) f (has-each (R x) xs a all.0 h))
        | inr k ↦ pairs-told R test xs a b both all.1 h k passes fails
      ]
    ]
  where
    differ : true ≡ false → ⊥
    differ e = cc

-- std's form, by places
pub pairs_from : {X : Type 0} (R : X → X → Type 0) (xs : List X) → AllPairs R xs → Pairs R xs
pairs_from R [] all = tt
pairs_from R (x ∷ xs) all =
    (recursion_from_All (R x) xs (λ k d low. all 0 (suc k) d (omega arith) (omega arith)), pairs_from R xs (λ i j d low high. all (suc i) (suc j) d (omega arith) (omega arith)))

pub pairs-in : {X : Type 0} (R S : X → X → Type 0) (xs : List X) → ((x y : X) → Has xs x → R x y → S x y) → Pairs R xs → Pairs S xs
pairs-in R S [] weaker all = tt
pairs-in R S (x ∷ xs) weaker all = (each-weaker (R x) (S x) (λ y r. weaker x y (inl refl) r) xs all.0, pairs-in R S xs (λ y z h r. weaker y z (inr h) r) all.1)

pub pairs-all : {X : Type 0} (R : X → X → Type 0) (xs : List X) → ((x y : X) → Has xs x → Has xs y → R x y) → Pairs R xs
pairs-all R [] holds = tt
pairs-all R (x ∷ xs) holds = (each-of (R x) xs (λ y there. holds x y (inl refl) (inr there)), pairs-all R xs (λ y z h k. holds y z (inr h) (inr k)))

pub pairs-made : {X Y : Type 0} (R : Y → Y → Type 0) (f : X → Y) (xs : List X) → Pairs R (map f xs) → Pairs (λ x y. R (f x) (f y)) xs
pairs-made R f [] all = tt
pairs-made R f (x ∷ xs) all = (each-made (R (f x)) f xs all.0, pairs-made R f xs all.1)
