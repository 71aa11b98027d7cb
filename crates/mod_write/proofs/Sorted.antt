-- A list that is sorted by a number, and in which what ties stands as before, is the list in order.
use Rattle.std.proofs.Common.{◌≡◌, ℕ, suc, ◌≤◌, ◌<◌, Bool, true, false, not, ◌&&◌, ◌==◌, nat_lt, cond, if◌then◌else◌, List, [], ◌∷◌, filter, All, refl, sym, ap, ◌∙◌, arith}
use Rattle.std.specs.Prelude.{⊤}
use Rattle.std.specs.declared.cmp.Ordering.TheVariants.{Equal, Greater}
use Rattle.std.specs.Ordering.{nat_cmp, is_lt}
use Rattle.std.specs.List.Sorted.{ties, IsNonDecreasingBy, IsStableByKey}
use Rattle.std.proofs.lemmas.Bool.Decides.{nat_tests}
use Rattle.std.proofs.lemmas.List.Elements.{All-nil, All-cons, All-head, All-tail, All-weaker}
use Rattle.linking_model.specs.Names.{inserted, in_order}

less : (a b : ℕ) → a < b → is_lt (nat_cmp a b) ≡ true
less a b below =
    let e : nat_lt a b ≡ true = grind (arith, nat_tests) in
    rw e refl

not_less : (a b : ℕ) → b ≤ a → is_lt (nat_cmp a b) ≡ false
not_less a b above =
    let e : nat_lt a b ≡ false = grind (arith, nat_tests) in
    rw e (by_equal (a == b))
  where
    by_equal : (same : Bool) → is_lt (cond same Equal Greater) ≡ false
    by_equal true = refl
    by_equal false = refl

-- a list in the order of a number of each item, item by item
abbrev pub InOrder : {X : Type 0} → (X → ℕ) → List X → Type 0
InOrder n [] = ⊤
InOrder n (x ∷ xs) = All (λ y. n x ≤ n y) xs × InOrder n xs

-- both have the same number
abbrev tie : {X : Type 0} → (X → ℕ) → X → X → Bool
tie n = ties (λ x y. is_lt (nat_cmp (n x) (n y)))

-- x goes before y
abbrev pub before : {X : Type 0} → (X → ℕ) → X → X → Bool
before n x y = nat_lt (n x) (n y)

-- what holds of each item holds of them in order, by any test
pub inserted_all : {X : Type 0} (test : X → X → Bool) (P : X → Type 0) (x : X) (ys : List X) → P x → All P ys → All P (inserted test x ys)
inserted_all test P x [] is are = All-cons P x [] is are
inserted_all test P x (y ∷ ys) is are = by_test (test y x) (inserted_all test P x ys is (All-tail P y ys are))
  where
    by_test : (b : Bool) → All P (inserted test x ys) → All P (if b then y ∷ inserted test x ys else x ∷ y ∷ ys)
    by_test true more = All-cons P y (inserted test x ys) (All-head P y ys are) more
    by_test false more = All-cons P x (y ∷ ys) is are

pub in_order_all : {X : Type 0} (test : X → X → Bool) (P : X → Type 0) (xs : List X) → All P xs → All P (in_order test xs)
in_order_all test P [] are = All-nil P
in_order_all test P (x ∷ xs) are =
    inserted_all test P x (in_order test xs) (All-head P x xs are) (in_order_all test P xs (All-tail P x xs are))

module _ {X : Type 0} (n : X → ℕ) where
  pub in_order_by : (xs : List X) → IsNonDecreasingBy n xs → InOrder n xs
  in_order_by [] h = tt
  in_order_by (x ∷ xs) h =
      (λ k d lt. h 0 (suc k) d (omega arith) (omega arith), in_order_by xs (λ i j d le lt. h (suc i) (suc j) d (omega arith) (omega arith)))

  ties_same : (x y : X) → n x ≡ n y → tie n x y ≡ true
  ties_same x y e = rw (not_less (n x) (n y) (omega arith), not_less (n y) (n x) (omega arith)) refl

  ties_below : (x y : X) → n x < n y → tie n x y ≡ false
  ties_below x y below = rw (less (n x) (n y) below) refl

  ties_above : (x y : X) → n y < n x → tie n x y ≡ false
  ties_above x y above = rw (not_less (n x) (n y) (omega arith), less (n y) (n x) above) refl

  tie_means : (x y : X) → tie n x y ≡ true → n x ≡ n y
  tie_means x y e = by_order (nat_lt (n x) (n y)) (nat_lt (n y) (n x)) refl refl
    where
      by_order : (low high : Bool) → nat_lt (n x) (n y) ≡ low → nat_lt (n y) (n x) ≡ high → n x ≡ n y
      by_order true high low_is high_is =
          let below : n x < n y = grind (arith, nat_tests) in
          absurd (let h = sym e ∙ ties_below x y below in cc)
      by_order false true low_is high_is =
          let above : n y < n x = grind (arith, nat_tests) in
          absurd (let h = sym e ∙ ties_above x y above in cc)
      by_order false false low_is high_is = grind (arith, nat_tests)

  ties_alike : (z x y : X) → n x ≡ n y → tie n z x ≡ tie n z y
  ties_alike z x y e = ap (λ m. not (is_lt (nat_cmp (n z) m)) && not (is_lt (nat_cmp m (n z)))) e

  none_tie : (z : X) (xs : List X) → All (λ y. n z < n y) xs → filter (tie n z) xs ≡ []
  none_tie z [] above = refl
  none_tie z (x ∷ xs) above =
      rw (ties_below z x (All-head (λ y. n z < n y) x xs above)) (none_tie z xs (All-tail (λ y. n z < n y) x xs above))

  first_ties : (x : X) (xs : List X) → filter (tie n x) (x ∷ xs) ≡ x ∷ filter (tie n x) xs
  first_ties x xs = rw (ties_same x x refl) refl

  -- all of a list in order come after what is below its first
  above_all : (z x : X) (xs : List X) → n z < n x → InOrder n (x ∷ xs) → All (λ y. n z < n y) (x ∷ xs)
  above_all z x xs below ordered =
      All-cons (λ y. n z < n y) x xs below (All-weaker (λ y. n x ≤ n y) (λ y. n z < n y) (λ y le. omega arith) xs ordered.0)

  rests_tie : (x : X) (xs ys : List X) → ((z : X) → filter (tie n z) (x ∷ xs) ≡ filter (tie n z) (x ∷ ys)) → (z : X) → filter (tie n z) xs ≡ filter (tie n z) ys
  rests_tie x xs ys same z = by_first (tie n z x) refl
    where
      by_first : (b : Bool) → tie n z x ≡ b → filter (tie n z) xs ≡ filter (tie n z) ys
      by_first true e = let h = rw (e) at (same z) in cc
      by_first false e = let h = rw (e) at (same z) in h

  pub same_sorted : (xs ys : List X) → InOrder n xs → InOrder n ys → ((z : X) → filter (tie n z) xs ≡ filter (tie n z) ys) → xs ≡ ys
  same_sorted [] [] p q same = refl
  same_sorted [] (y ∷ ys) p q same = absurd (let h = same y ∙ first_ties y ys in cc)
  same_sorted (x ∷ xs) [] p q same = absurd (let h = sym (first_ties x xs) ∙ same x in cc)
  same_sorted (x ∷ xs) (y ∷ ys) p q same =
      by_order (nat_lt (n x) (n y)) (nat_lt (n y) (n x)) refl refl (same_sorted xs ys p.1 q.1)
    where
      by_order : (low high : Bool) → nat_lt (n x) (n y) ≡ low → nat_lt (n y) (n x) ≡ high
          → (((z : X) → filter (tie n z) xs ≡ filter (tie n z) ys) → xs ≡ ys) → (x ∷ xs) ≡ (y ∷ ys)
      by_order true high low_is high_is rest =
          let below : n x < n y = grind (arith, nat_tests) in
          absurd (let h = sym (first_ties x xs) ∙ (same x ∙ none_tie x (y ∷ ys) (above_all x y ys below q)) in cc)
      by_order false true low_is high_is rest =
          let below : n y < n x = grind (arith, nat_tests) in
          absurd (let h = sym (first_ties y ys) ∙ (sym (same y) ∙ none_tie y (x ∷ xs) (above_all y x xs below p)) in cc)
      by_order false false low_is high_is rest =
          let level : n x ≡ n y = grind (arith, nat_tests) in
          let firsts : x ∷ filter (tie n x) xs ≡ y ∷ filter (tie n x) ys =
          sym (first_ties x xs) ∙ (same x ∙ (rw (ties_same x y level) refl)) in
          let first : x ≡ y = cc in
          ap (λ (v : X). v ∷ xs) first ∙ ap (λ (v : List X). y ∷ v) (rest (rests_tie x xs ys (λ z. same z ∙ ap (λ (v : X). filter (tie n z) (v ∷ ys)) (sym first))))

  -- ---- insertion

  inserted_tie : (z x : X) (ys : List X) → filter (tie n z) (inserted (before n) x ys) ≡ filter (tie n z) (x ∷ ys)
  inserted_tie z x [] = refl
  inserted_tie z x (y ∷ ys) = by_before (nat_lt (n y) (n x)) refl (inserted_tie z x ys)
    where
      by_tie : (b c : Bool) → tie n z y ≡ b → tie n z x ≡ c → n y < n x → filter (tie n z) (inserted (before n) x ys) ≡ filter (tie n z) (x ∷ ys)
          → filter (tie n z) (y ∷ inserted (before n) x ys) ≡ filter (tie n z) (x ∷ y ∷ ys)
      by_tie true true e f below more =
          let high : n z ≡ n x = tie_means z x f in
          let low : n z ≡ n y = tie_means z y e in
          absurd (omega arith)
      by_tie true false e f below more = rw (e, f) (ap (λ (v : List X). y ∷ v) (more ∙ (rw f refl)))
      by_tie false c e f below more = rw e more

      by_before : (b : Bool) → nat_lt (n y) (n x) ≡ b → filter (tie n z) (inserted (before n) x ys) ≡ filter (tie n z) (x ∷ ys)
          → filter (tie n z) (if b then y ∷ inserted (before n) x ys else x ∷ y ∷ ys) ≡ filter (tie n z) (x ∷ y ∷ ys)
      by_before true e more = by_tie (tie n z y) (tie n z x) refl refl (grind (arith, nat_tests)) more
      by_before false e more = refl

  pub in_order_tie : (z : X) (xs : List X) → filter (tie n z) (in_order (before n) xs) ≡ filter (tie n z) xs
  in_order_tie z [] = refl
  in_order_tie z (x ∷ xs) =
      inserted_tie z x (in_order (before n) xs) ∙ ap (λ (v : List X). cond (tie n z x) (x ∷ v) v) (in_order_tie z xs)

  inserted_ordered : (x : X) (ys : List X) → InOrder n ys → InOrder n (inserted (before n) x ys)
  inserted_ordered x [] ordered = (All-nil (λ y. n x ≤ n y), tt)
  inserted_ordered x (y ∷ ys) ordered = by_before (nat_lt (n y) (n x)) refl (inserted_ordered x ys ordered.1)
    where
      by_before : (b : Bool) → nat_lt (n y) (n x) ≡ b → InOrder n (inserted (before n) x ys)
          → InOrder n (if b then y ∷ inserted (before n) x ys else x ∷ y ∷ ys)
      by_before true e more =
          let below : n y < n x = grind (arith, nat_tests) in
          (inserted_all (before n) (λ z. n y ≤ n z) x ys (omega arith) ordered.0, more)
      by_before false e more =
          let above : n x ≤ n y = grind (arith, nat_tests) in
          (All-cons (λ z. n x ≤ n z) y ys above (All-weaker (λ z. n y ≤ n z) (λ z. n x ≤ n z) (λ z le. omega arith) ys ordered.0), ordered)

  pub in_order_ordered : (xs : List X) → InOrder n (in_order (before n) xs)
  in_order_ordered [] = tt
  in_order_ordered (x ∷ xs) = inserted_ordered x (in_order (before n) xs) (in_order_ordered xs)

  -- what a stable sort gives
  pub sorted_is : (xs ys : List X) → IsNonDecreasingBy n ys → IsStableByKey n nat_cmp xs ys → ys ≡ in_order (before n) xs
  sorted_is xs ys sorted stable =
      same_sorted ys (in_order (before n) xs) (in_order_by ys sorted) (in_order_ordered xs) (λ z. stable z ∙ sym (in_order_tie z xs))
