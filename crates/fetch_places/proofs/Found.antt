-- The first area that has room.
use Rattle.std.proofs.Common.{arith, ◌≡◌, ℕ, zero, suc, ◌+◌, ◌-◌, ◌<◌, ◌≤◌, Bool, true, false, if◌then◌else◌, List, [], ◌∷◌, map, length, get_or, slice_set, refl, sym, ◌∙◌, ap, Option, Some, None, nat_lt}
use Rattle.std.specs.List.{position, position_or_len}
use Rattle.std.specs.Option.{option_map}
use Rattle.std.proofs.lemmas.Grind.{common_steps}
use Rattle.linking_model.specs.Numbers.{round8}
use Rattle.linking_model.specs.Scattered.{Area as Left, Found, found}
use Rattle.fetch_places.specs.declared.placement.Area.{Area}
use Rattle.fetch_places.specs.Over.{left_of, whole_area}
use Rattle.fetch_places.specs.Room.{has_room, filled, TakesRoom}

-- ---- positions

pub position_some : {X : Type 0} (p : X → Bool) (xs : List X) (i : ℕ) → Some i ≡ position p xs → (i < length xs) × (i ≡ position_or_len p xs)
position_some p xs i is = by_cases (nat_lt (position_or_len p xs) (length xs)) refl
  where
    by_cases : (b : Bool) → nat_lt (position_or_len p xs) (length xs) ≡ b → (i < length xs) × (i ≡ position_or_len p xs)
    by_cases true within =
        let same : i ≡ position_or_len p xs = (let e : Some i ≡ Some (position_or_len p xs) = rw within at is in cc) in
        (rw same (grind (arith, within)), same)
    by_cases false within = let e : Some i ≡ None = rw within at is in absurd cc

pub position_none : {X : Type 0} (p : X → Bool) (xs : List X) → None ≡ position p xs → length xs ≤ position_or_len p xs
position_none p xs is = by_cases (nat_lt (position_or_len p xs) (length xs)) refl
  where
    by_cases : (b : Bool) → nat_lt (position_or_len p xs) (length xs) ≡ b → length xs ≤ position_or_len p xs
    by_cases true within = let e : None ≡ Some (position_or_len p xs) = rw within at is in absurd cc
    by_cases false within = grind (arith, within)

-- ---- areas

one_more : (n : ℕ) → 1 + n ≡ suc n
one_more n = omega arith

pub no_room : (n : ℕ) (areas : List Area) → length areas ≤ position_or_len (has_room n) areas → found (left_of areas) n ≡ None
no_room n [] past = refl
no_room n (a ∷ areas) past = by_cases (has_room n a) refl (λ rest. no_room n areas rest)
  where
    by_cases : (b : Bool) → has_room n a ≡ b
        → (length areas ≤ position_or_len (has_room n) areas → found (left_of areas) n ≡ None) → found (left_of (a ∷ areas)) n ≡ None
    by_cases true room later = absurd (omega (arith, rw room at past))
    by_cases false room later =
        let rest : length areas ≤ position_or_len (has_room n) areas = omega (arith, rw room at past) in
        rw (room, later rest) refl

pub room_found : (n i : ℕ) (areas : List Area) (b : Area) → i < length areas → i ≡ position_or_len (has_room n) areas → b ≡ get_or areas i b
    → found (left_of areas) n ≡ Some (record { address = round8 b.from; left = left_of (slice_set areas i (filled n b)) })
room_found n i [] b within is at = absurd (omega (arith, within))
room_found n i (a ∷ areas) b within is at = by_cases (has_room n a) refl (λ below there. room_found n (position_or_len (has_room n) areas) areas b below refl there)
  where
    by_cases : (t : Bool) → has_room n a ≡ t
        → (position_or_len (has_room n) areas < length areas → b ≡ get_or areas (position_or_len (has_room n) areas) b
        → found (left_of areas) n ≡ Some (record { address = round8 b.from; left = left_of (slice_set areas (position_or_len (has_room n) areas) (filled n b)) }))
        → found (left_of (a ∷ areas)) n ≡ Some (record { address = round8 b.from; left = left_of (slice_set (a ∷ areas) i (filled n b)) })
    by_cases true room later =
        let first : i ≡ 0 = is ∙ rw room refl in
        let same : b ≡ a = at ∙ rw first refl in
        rw (first, same, room) refl
    by_cases false room later =
        let k : ℕ = position_or_len (has_room n) areas in
        let next : i ≡ suc k = is ∙ rw room (one_more k) in
        let there : b ≡ get_or areas k b = at ∙ rw next refl in
        let below : k < length areas = omega (arith, next, within) in
        rw (next, room, later below there) refl

pub has_room_there : (n i : ℕ) (areas : List Area) (b : Area) → i < length areas → i ≡ position_or_len (has_room n) areas → b ≡ get_or areas i b
    → has_room n b ≡ true
has_room_there n i [] b within is at = absurd (omega (arith, within))
has_room_there n i (a ∷ areas) b within is at =
    by_cases (has_room n a) refl (λ below there. has_room_there n (position_or_len (has_room n) areas) areas b below refl there)
  where
    by_cases : (t : Bool) → has_room n a ≡ t
        → (position_or_len (has_room n) areas < length areas → b ≡ get_or areas (position_or_len (has_room n) areas) b → has_room n b ≡ true)
        → has_room n b ≡ true
    by_cases true room later =
        let first : i ≡ 0 = is ∙ rw room refl in
        let same : b ≡ a = at ∙ rw first refl in
        rw (same, room) refl
    by_cases false room later =
        let k : ℕ = position_or_len (has_room n) areas in
        let next : i ≡ suc k = is ∙ rw room (one_more k) in
        let there : b ≡ get_or areas k b = at ∙ rw next refl in
        later (omega (arith, next, within)) there

any_default : (areas : List Area) (i : ℕ) (d e : Area) → i < length areas → get_or areas i d ≡ get_or areas i e
any_default [] i d e within = absurd (omega (arith, within))
any_default (a ∷ areas) zero d e within = refl
any_default (a ∷ areas) (suc i) d e within = any_default areas i d e (omega (arith, within))

-- what is found at the first place that has room
pub room_at : (n i : ℕ) (areas : List Area) (d left : Area) → Some i ≡ position (has_room n) areas → left ≡ filled n (get_or areas i d)
    → found (left_of areas) n ≡ Some (record { address = left.from - n; left = left_of (slice_set areas i left) })
room_at n i areas d left is filled_is =
    let at : (i < length areas) × (i ≡ position_or_len (has_room n) areas) = position_some (has_room n) areas i is in
    let b : Area = get_or areas i d in
    let place : round8 b.from ≡ (round8 b.from + n) - n = omega arith in
    rw filled_is
    (room_found n i areas b at.0 at.1 (any_default areas i d b at.0)
    ∙ ap (λ k. Some (record { address = k; left = left_of (slice_set areas i (filled n b)) })) place)

pub room_there : (n i : ℕ) (areas : List Area) (d : Area) → Some i ≡ position (has_room n) areas → has_room n (get_or areas i d) ≡ true
room_there n i areas d is =
    let at : (i < length areas) × (i ≡ position_or_len (has_room n) areas) = position_some (has_room n) areas i is in
    has_room_there n i areas (get_or areas i d) at.0 at.1 (any_default areas i d (get_or areas i d) at.0)
