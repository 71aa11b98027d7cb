-- The first place that passes a test, with one more element at the end.
use Rattle.std.proofs.Common.{arith, ◌≡◌, ℕ, ◌+◌, ◌<◌, ◌≤◌, Bool, true, false, zero, suc, not, ◌||◌, cond, nat_lt, eqb, List, [], ◌∷◌, ◌++◌, length, Option, Some, None, refl, ◌∙◌, ap, slice_get, length-append}
use Rattle.std.specs.List.{position, position_or_len, find, list_any}
use Rattle.std.specs.Option.{is_some}
use Rattle.std.proofs.lemmas.Grind.{common_steps}
use Rattle.std.proofs.lemmas.List.Folds.{find_at, position_or_len_push}
use Rattle.std.proofs.lemmas.List.Sums.{prefix_len-le-length}
use Rattle.std.proofs.lemmas.Option.{slice_get_past}
use Rattle.mod_read.specs.Placed.{or_place}

find_of_position : {X : Type 0} (p : X → Bool) (xs : List X) (n : ℕ) → position p xs ≡ Some n → find p xs ≡ slice_get xs n
find_of_position p xs n found = grind (arith, common_steps, find_at p xs, found)

find_of_no_position : {X : Type 0} (p : X → Bool) (xs : List X) → position p xs ≡ None → find p xs ≡ None
find_of_no_position p xs none = find_at p xs ∙ slice_get_past xs (position_or_len p xs) (grind (arith, none))

place_after : (n m : ℕ) (b : Bool) → n ≤ m
    → cond (nat_lt (cond (eqb n m) (m + cond b 0 1) n) (m + 1)) (Some (cond (eqb n m) (m + cond b 0 1) n)) None
    ≡ or_place (cond (nat_lt n m) (Some n) None) b m
place_after n m true within = grind (arith, within)
place_after n m false within = grind (arith, within)

pub position_more : {X : Type 0} (p : X → Bool) (xs : List X) (x : X)
    → position p (xs ++ x ∷ []) ≡ or_place (position p xs) (p x) (length xs)
position_more p xs x =
    rw (position_or_len_push p xs x, length-append xs (x ∷ []))
    (place_after (position_or_len p xs) (length xs) (p x) (prefix_len-le-length (λ x. not (p x)) xs))

get_is_some : {X : Type 0} (xs : List X) (n : ℕ) → n < length xs → is_some (slice_get xs n) ≡ true
get_is_some [] n within = absurd (omega (arith, within))
get_is_some (x ∷ xs) zero within = refl
get_is_some (x ∷ xs) (suc n) within = get_is_some xs n (omega (arith, within))

is_there : {X : Type 0} (p : X → Bool) (xs : List X) (n : ℕ) → position p xs ≡ Some n → is_some (slice_get xs n) ≡ true
is_there p xs n found = get_is_some xs n (grind (arith, found))

any_step : {X : Type 0} (b : Bool) (x : X) (a : Bool) (r : Option X) → a ≡ is_some r → (b || a) ≡ is_some (cond b (Some x) r)
any_step true x a r same = refl
any_step false x a r same = same

any_of_find : {X : Type 0} (p : X → Bool) (xs : List X) → list_any p xs ≡ is_some (find p xs)
any_of_find p [] = refl
any_of_find p (x ∷ xs) = any_step (p x) x (list_any p xs) (find p xs) (any_of_find p xs)

pub any_of_no_position : {X : Type 0} (p : X → Bool) (xs : List X) → position p xs ≡ None → list_any p xs ≡ false
any_of_no_position p xs none = any_of_find p xs ∙ ap (λ o. is_some o) (find_of_no_position p xs none)

pub any_of_position : {X : Type 0} (p : X → Bool) (xs : List X) (n : ℕ) → position p xs ≡ Some n → list_any p xs ≡ true
any_of_position p xs n found = any_of_find p xs ∙ (ap (λ o. is_some o) (find_of_position p xs n found) ∙ is_there p xs n found)
