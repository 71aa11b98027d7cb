-- Extents stand apart exactly where, in the order of their addresses, each begins behind those before it.
use Rattle.std.proofs.Common.{arith, ◌≡◌, ℕ, zero, suc, ◌+◌, ◌<◌, ◌≤◌, Bool, true, false, cond, ◌&&◌, ◌==◌, nat_le, if◌then◌else◌, List, [], ◌∷◌, length, get_or, count_by, IsTrue, ◌↔◌, refl, sym, ◌∙◌, ap, subst, nat_lt, add-one}
use Rattle.std.specs.Ordering.{nat_cmp, ordering_then, is_lt}
use Rattle.std.specs.List.Sorted.{IsPermutation}
use Rattle.std.proofs.lemmas.List.Sums.{sum_by-cons}
use Rattle.std.proofs.lemmas.List.Sorted.{sum_by-IsPermutation}
use Rattle.linking_model.specs.Numbers.{is_among}
use Rattle.fetch_places.specs.declared.extent.Extent.{Extent}
use Rattle.fetch_places.specs.Extents.{has, StandApart, are_in_turn, extents_at}

-- one more of them
pub held_first : (a : ℕ) (x : Extent) (xs : List Extent) → count_by (has a) (x ∷ xs) ≡ cond (has a x) 1 0 + count_by (has a) xs
held_first a x xs = sum_by-cons (λ y. cond (has a y) 1 0) x xs

-- no section has an extent
pub no_sections : (addresses : List ℕ) → extents_at addresses [] ≡ []
no_sections [] = refl
no_sections (a ∷ addresses) = refl

-- ---- one after the other: apart

record HeldOnce (end : ℕ) (xs : List Extent) (a : ℕ) : Type 0 where
  pub once : count_by (has a) xs ≤ 1
  pub before : a < end → count_by (has a) xs ≡ 0

not_in_none : (a : ℕ) (x : Extent) → (x.count == 0) ≡ true → has a x ≡ false
not_in_none a x empty = grind (arith, empty)

second_of : (s t : Bool) → (s && t) ≡ true → t ≡ true
second_of true t h = h
second_of false t h = absurd cc

once_with : (end a : ℕ) (x : Extent) (xs : List Extent) → end ≤ x.at → HeldOnce (x.at + x.count) xs a → HeldOnce end (x ∷ xs) a
once_with end a x xs begins rest = by_held (has a x) refl
  where
    by_held : (t : Bool) → has a x ≡ t → HeldOnce end (x ∷ xs) a
    by_held true is =
        let from : x.at ≤ a = grind (arith, is) in
        let to : a < x.at + x.count = grind (arith, is) in
        let none : count_by (has a) xs ≡ 0 = rest.before to in
        let all : count_by (has a) (x ∷ xs) ≡ 1 = held_first a x xs ∙ rw (is, none) refl in
        record { once = omega (arith, all); before = λ h. absurd (omega (arith, h, from, begins)) }
    by_held false is =
        let all : count_by (has a) (x ∷ xs) ≡ count_by (has a) xs = held_first a x xs ∙ rw is (omega arith) in
        record { once = rw all rest.once; before = λ h. all ∙ rest.before (omega (arith, h, begins)) }

once_without : (end a : ℕ) (x : Extent) (xs : List Extent) → (x.count == 0) ≡ true → HeldOnce end xs a → HeldOnce end (x ∷ xs) a
once_without end a x xs empty rest =
    let all : count_by (has a) (x ∷ xs) ≡ count_by (has a) xs = held_first a x xs ∙ rw (not_in_none a x empty) (omega arith) in
    record { once = rw all rest.once; before = λ h. all ∙ rest.before h }

in_turn_once : (end : ℕ) (xs : List Extent) → are_in_turn end xs ≡ true → (a : ℕ) → HeldOnce end xs a
in_turn_once end [] turn a = record { once = omega arith; before = λ h. refl }
in_turn_once end (x ∷ xs) turn a =
    by_cases (x.count == 0) refl (λ rest. in_turn_once end xs rest a) (λ rest. in_turn_once (x.at + x.count) xs rest a)
  where
    by_cases : (t : Bool) → (x.count == 0) ≡ t → (are_in_turn end xs ≡ true → HeldOnce end xs a)
        → (are_in_turn (x.at + x.count) xs ≡ true → HeldOnce (x.at + x.count) xs a) → HeldOnce end (x ∷ xs) a
    by_cases true empty without with_x = once_without end a x xs empty (without (rw empty at turn))
    by_cases false some without with_x =
        let both : (nat_le end x.at && are_in_turn (x.at + x.count) xs) ≡ true = rw some at turn in
        once_with end a x xs (grind (arith, both)) (with_x (second_of (nat_le end x.at) (are_in_turn (x.at + x.count) xs) both))

pub in_turn_apart : (xs : List Extent) → are_in_turn 0 xs ≡ true → StandApart xs
in_turn_apart xs turn = λ a. (in_turn_once 0 xs turn a).once

-- ---- not one after the other: an address in two

-- each address is not below the one before it, and the first not below that of p
abbrev pub Ascends : ℕ → List Extent → Type 0
Ascends low [] = Unit {0}
Ascends low (x ∷ xs) = (low ≤ x.at) × Ascends x.at xs

ascends_from : (low high : ℕ) (xs : List Extent) → low ≤ high → Ascends high xs → Ascends low xs
ascends_from low high [] less up = tt
ascends_from low high (x ∷ xs) less up = (omega (arith, less, up.0), up.1)

-- an address that two of the extents have
record IsShared (xs : List Extent) : Type 0 where
  pub address : ℕ
  pub twice : 2 ≤ count_by (has address) xs

one_more_shared : (x : Extent) (xs : List Extent) → IsShared xs → IsShared (x ∷ xs)
one_more_shared x xs shared = record { address = shared.address; twice = rw (held_first shared.address x xs) (omega (arith, shared.twice)) }

has_first : (x : Extent) → (x.count == 0) ≡ false → has x.at x ≡ true
has_first x some = grind (arith, some)

skipped_shared : (p x : Extent) (xs : List Extent) → IsShared (p ∷ xs) → IsShared (p ∷ x ∷ xs)
skipped_shared p x xs shared =
    let a : ℕ = shared.address in
    let two : 2 ≤ cond (has a p) 1 0 + count_by (has a) xs = rw (held_first a p xs) at shared.twice in
    record { address = a; twice = rw (held_first a p (x ∷ xs), held_first a x xs) (omega (arith, two)) }

not_second : (s t : Bool) → s ≡ true → (s && t) ≡ false → t ≡ false
not_second true t is h = h
not_second false t is h = absurd cc

meets : (p : Extent) (xs : List Extent) → Ascends p.at xs → are_in_turn (p.at + p.count) xs ≡ false → IsShared (p ∷ xs)
meets p [] up turn = absurd cc
meets p (x ∷ xs) up turn =
    by_cases (x.count == 0) refl (λ rest. meets p xs (ascends_from p.at x.at xs up.0 up.1) rest) (λ rest. meets x xs up.1 rest)
  where
    by_order : (x.count == 0) ≡ false → (t : Bool) → nat_le (p.at + p.count) x.at ≡ t → (t && are_in_turn (x.at + x.count) xs) ≡ false
        → (are_in_turn (x.at + x.count) xs ≡ false → IsShared (x ∷ xs)) → IsShared (p ∷ x ∷ xs)
    by_order some true order rest later = one_more_shared p (x ∷ xs) (later rest)
    by_order some false order rest later =
        let held : has x.at p ≡ true = grind (arith, order, up.0) in
        record { address = x.at; twice = rw (held_first x.at p (x ∷ xs), held_first x.at x xs, held, has_first x some) (omega arith) }

    by_cases : (t : Bool) → (x.count == 0) ≡ t → (are_in_turn (p.at + p.count) xs ≡ false → IsShared (p ∷ xs))
        → (are_in_turn (x.at + x.count) xs ≡ false → IsShared (x ∷ xs)) → IsShared (p ∷ x ∷ xs)
    by_cases true empty without with_x = skipped_shared p x xs (without (rw empty at turn))
    by_cases false some without with_x = by_order some (nat_le (p.at + p.count) x.at) refl (rw some at turn) with_x

shared_somewhere : (xs : List Extent) → Ascends 0 xs → are_in_turn 0 xs ≡ false → IsShared xs
shared_somewhere [] up turn = absurd cc
shared_somewhere (x ∷ xs) up turn =
    by_cases (x.count == 0) refl (λ rest. shared_somewhere xs (ascends_from 0 x.at xs (omega arith) up.1) rest)
  where
    by_cases : (t : Bool) → (x.count == 0) ≡ t → (are_in_turn 0 xs ≡ false → IsShared xs) → IsShared (x ∷ xs)
    by_cases true empty later = one_more_shared x xs (later (rw empty at turn))
    by_cases false some later =
        meets x xs up.1 (not_second (nat_le 0 x.at) (are_in_turn (x.at + x.count) xs) (grind arith) (rw some at turn))

pub not_in_turn : (xs : List Extent) → Ascends 0 xs → are_in_turn 0 xs ≡ false → StandApart xs → ⊥
not_in_turn xs up turn apart =
    let shared : IsShared xs = shared_somewhere xs up turn in
    omega (arith, apart shared.address, shared.twice)

-- ---- the order does not count

pub apart_moved : (xs ys : List Extent) → IsPermutation xs ys → StandApart xs → StandApart ys
apart_moved xs ys moved apart = λ a. rw (sum_by-IsPermutation (λ x. cond (has a x) 1 0) xs ys moved) (apart a)

pub apart_before : (xs ys : List Extent) → IsPermutation xs ys → StandApart ys → StandApart xs
apart_before xs ys moved apart = λ a. rw (sym (sum_by-IsPermutation (λ x. cond (has a x) 1 0) xs ys moved)) (apart a)

-- ---- as a sort leaves them

-- not less by address and count: not below by address
not_below : (a b c d : ℕ) → is_lt (ordering_then (nat_cmp a b) (nat_cmp c d)) ≡ false → b ≤ a
not_below a b c d h = by_cases (nat_lt a b) refl
  where
    by_cases : (t : Bool) → nat_lt a b ≡ t → b ≤ a
    by_cases true below = let wrong : true ≡ false = rw below at h in absurd cc
    by_cases false above = grind (arith, above)

-- no extent is less than the one before it
abbrev pub IsSortedList : List Extent → Type 0
IsSortedList xs =
    (k : ℕ) (d : Extent) → 0 ≤ k → k + 1 < length xs
    → is_lt (ordering_then (nat_cmp (get_or xs (k + 1) d).at (get_or xs k d).at) (nat_cmp (get_or xs (k + 1) d).count (get_or xs k d).count)) ≡ false

one_later : (x : Extent) (xs : List Extent) (k : ℕ) (d : Extent) → get_or (x ∷ xs) (k + 1) d ≡ get_or xs k d
one_later x xs k d = rw add-one refl

sorted_rest : (x : Extent) (xs : List Extent) → IsSortedList (x ∷ xs) → IsSortedList xs
sorted_rest x xs sorted = λ k d low within. rw (one_later x xs (k + 1) d, one_later x xs k d) at (sorted (k + 1) d (omega arith) (omega (arith, within)))

ascends_after : (x : Extent) (xs : List Extent) → IsSortedList (x ∷ xs) → Ascends x.at xs
ascends_after x [] sorted = tt
ascends_after x (y ∷ xs) sorted = (not_below y.at x.at y.count x.count (sorted 0 x (omega arith) (omega arith)), ascends_after y xs (sorted_rest x (y ∷ xs) sorted))

pub sorted_ascends : (xs : List Extent) → IsSortedList xs → Ascends 0 xs
sorted_ascends [] sorted = tt
sorted_ascends (x ∷ xs) sorted = (omega arith, ascends_after x xs sorted)

turn_cases : (xs ys : List Extent) (t : Bool) → t ≡ are_in_turn 0 ys → IsPermutation xs ys → IsSortedList ys → (IsTrue t → StandApart xs) × (StandApart xs → IsTrue t)
turn_cases xs ys true is moved sorted = (λ h. apart_before xs ys moved (in_turn_apart ys (sym is)), λ h. refl)
turn_cases xs ys false is moved sorted =
    (λ h. absurd (cc), λ apart. absurd (not_in_turn ys (sorted_ascends ys sorted) (sym is) (apart_moved xs ys moved apart)))

-- the answer, of the sorted extents
pub stand_apart_is : (xs ys : List Extent) (t : Bool) → t ≡ are_in_turn 0 ys → IsPermutation xs ys → IsSortedList ys → IsTrue t ↔ StandApart xs
stand_apart_is xs ys t is moved sorted = turn_cases xs ys t is moved sorted
