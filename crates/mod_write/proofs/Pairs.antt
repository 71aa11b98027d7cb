-- What holds of each two items of a list, item by item.
use Rattle.std.proofs.Common.{ℕ, zero, suc, ◌≤◌, ◌<◌, Bool, true, false, nat_lt, if◌then◌else◌, List, [], ◌∷◌, ◌++◌, length, get_or, All, sym, subst, arith}
use Rattle.std.specs.Prelude.{⊤, AllPairs, flat_map}
use Rattle.std.specs.List.Sorted.{IsNonDecreasingBy}
use Rattle.std.proofs.lemmas.List.Concat.{flat_map-cons}
use Rattle.std.proofs.lemmas.List.Elements.{All-nil, All-head, All-tail, All-append}
use Rattle.linking_model.specs.Names.{inserted, in_order}
use Rattle.mod_write.proofs.Sorted.{InOrder, before, inserted_all, in_order_all}

-- each item and each later one
abbrev pub Pairs : {X : Type 0} → (X → X → Type 0) → List X → Type 0
Pairs R [] = ⊤
Pairs R (x ∷ xs) = All (R x) xs × Pairs R xs

module _ {X : Type 0} (R : X → X → Type 0) where
  pub pairs_by : (xs : List X) → AllPairs R xs → Pairs R xs
  pairs_by [] h = tt
  pairs_by (x ∷ xs) h =
      (λ k d lt. h 0 (suc k) d (omega arith) (omega arith), pairs_by xs (λ i j d lt le. h (suc i) (suc j) d (omega arith) (omega arith)))

  pub pairs_append : (xs ys : List X) → Pairs R xs → Pairs R ys → All (λ x. All (R x) ys) xs → Pairs R (xs ++ ys)
  pairs_append [] ys p q across = q
  pairs_append (x ∷ xs) ys p q across =
      (All-append (R x) xs ys p.0 (All-head (λ x. All (R x) ys) x xs across), pairs_append xs ys p.1 q (All-tail (λ x. All (R x) ys) x xs across))

  pub pairs_inserted : (n : X → ℕ) → ((x y : X) → R x y → R y x) → (x : X) (ys : List X) → All (R x) ys → Pairs R ys → Pairs R (inserted (before n) x ys)
  pairs_inserted n flip x [] here rest = (here, tt)
  pairs_inserted n flip x (y ∷ ys) here rest =
      by_before (nat_lt (n y) (n x)) (pairs_inserted n flip x ys (All-tail (R x) y ys here) rest.1)
    where
      by_before : (b : Bool) → Pairs R (inserted (before n) x ys) → Pairs R (if b then y ∷ inserted (before n) x ys else x ∷ y ∷ ys)
      by_before true more = (inserted_all (before n) (R y) x ys (flip x y (All-head (R x) y ys here)) rest.0, more)
      by_before false more = (here, rest)

  pub pairs_in_order : (n : X → ℕ) → ((x y : X) → R x y → R y x) → (xs : List X) → Pairs R xs → Pairs R (in_order (before n) xs)
  pairs_in_order n flip [] p = tt
  pairs_in_order n flip (x ∷ xs) p =
      pairs_inserted n flip x (in_order (before n) xs) (in_order_all (before n) (R x) xs p.0) (pairs_in_order n flip xs p.1)

-- a list in the order of one number is in that of another which goes the same way
pub in_order_as : {X : Type 0} (m n : X → ℕ) (xs : List X) → InOrder m xs → Pairs (λ x y. m x ≤ m y → n x ≤ n y) xs → InOrder n xs
in_order_as m n [] ordered pairs = tt
in_order_as m n (x ∷ xs) ordered pairs = (λ k d lt. pairs.0 k d lt (ordered.0 k d lt), in_order_as m n xs ordered.1 pairs.1)

pub non_decreasing : {X : Type 0} (n : X → ℕ) (xs : List X) → InOrder n xs → IsNonDecreasingBy n xs
non_decreasing n [] ordered = λ i j d le lt. absurd (omega arith)
non_decreasing {X} n (x ∷ xs) ordered = by_place (non_decreasing n xs ordered.1)
  where
    by_place : IsNonDecreasingBy n xs → (i j : ℕ) (d : X) → i ≤ j → j < length (x ∷ xs) → n (get_or (x ∷ xs) i d) ≤ n (get_or (x ∷ xs) j d)
    by_place rest zero zero d le lt = omega arith
    by_place rest zero (suc j) d le lt = ordered.0 j d (omega arith)
    by_place rest (suc i) zero d le lt = absurd (omega arith)
    by_place rest (suc i) (suc j) d le lt = rest i j d (omega arith) (omega arith)

-- what holds of all that is made of each item
pub all_flat : {X Y : Type 0} (P : Y → Type 0) (f : X → List Y) (xs : List X) → All (λ x. All P (f x)) xs → All P (flat_map f xs)
all_flat P f [] are = All-nil P
all_flat P f (x ∷ xs) are =
    subst (All P) (sym (flat_map-cons f x xs))
    (All-append P (f x) (flat_map f xs) (All-head (λ x. All P (f x)) x xs are) (all_flat P f xs (All-tail (λ x. All P (f x)) x xs are)))
