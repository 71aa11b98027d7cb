-- The first place that passes a test: one more place at the end, and the length that END gives.
use Rattle.std.proofs.Common.{arith, ◌≡◌, ℕ, ◌+◌, ◌<◌, ◌≤◌, Bool, true, false, zero, suc, take, drop, set, not, ◌||◌, cond, if◌then◌else◌, nat_lt, eqb, List, [], ◌∷◌, ◌++◌, length, Option, Some, None, refl, sym, ◌∙◌, ap, slice_get, length-append, add-one, append_assoc}
use Rattle.std.specs.List.{position, position_or_len, find, list_any}
use Rattle.std.specs.Option.{is_some}
use Rattle.std.proofs.lemmas.Grind.{common_steps}
use Rattle.std.proofs.lemmas.List.Folds.{find_at, position_or_len_push}
use Rattle.std.proofs.lemmas.List.Sums.{prefix_len-le-length}
use Rattle.std.proofs.lemmas.Option.{slice_get_past}
use Rattle.obj_read.specs.declared.numbered.Numbered.{Numbered}
use Rattle.obj_read.specs.Facts.{has_esdid, number_of}
use Rattle.obj_read.specs.Module.{with_length, lacks_length}
use Rattle.obj_read.specs.Indexed.{or_place}

pub find_of_position : {X : Type 0} (p : X → Bool) (xs : List X) (n : ℕ) → position p xs ≡ Some n → find p xs ≡ slice_get xs n
find_of_position p xs n found = grind (arith, common_steps, find_at p xs, found)

pub find_of_no_position : {X : Type 0} (p : X → Bool) (xs : List X) → position p xs ≡ None → find p xs ≡ None
find_of_no_position p xs none = find_at p xs ∙ slice_get_past xs (position_or_len p xs) (grind (arith, none))

place_after : (n m : ℕ) (b : Bool) → n ≤ m
    → cond (nat_lt (cond (eqb n m) (m + cond b 0 1) n) (m + 1)) (Some (cond (eqb n m) (m + cond b 0 1) n)) None
    ≡ or_place (cond (nat_lt n m) (Some n) None) b m
place_after n m true within = grind (arith, within)
place_after n m false within = grind (arith, within)

pub position_more : {X : Type 0} (p : X → Bool) (xs : List X) (x : X)
    → position p (xs ++ x ∷ []) ≡ or_place (position p xs) (p x) (length xs)
position_more p xs x =
    rw (position_or_len_push p xs x, length-append xs (x ∷ []))
    (place_after (position_or_len p xs) (length xs) (p x) (prefix_len-le-length (λ x. not (p x)) xs))

get_is_some : {X : Type 0} (xs : List X) (n : ℕ) → n < length xs → is_some (slice_get xs n) ≡ true
get_is_some [] n within = absurd (omega (arith, within))
get_is_some (x ∷ xs) zero within = refl
get_is_some (x ∷ xs) (suc n) within = get_is_some xs n (omega (arith, within))

is_there : {X : Type 0} (p : X → Bool) (xs : List X) (n : ℕ) → position p xs ≡ Some n → is_some (slice_get xs n) ≡ true
is_there p xs n found = get_is_some xs n (grind (arith, found))

set_is_split : {X : Type 0} (k : ℕ) (xs : List X) (x y : X) → slice_get xs k ≡ Some x → set xs k y ≡ take k xs ++ y ∷ drop (suc k) xs
set_is_split k [] x y there = cc
set_is_split zero (z ∷ xs) x y there = refl
set_is_split (suc k) (z ∷ xs) x y there = ap (λ ys. z ∷ ys) (set_is_split k xs x y there)

head_is : {X : Type 0} (k : ℕ) (xs : List X) (x : X) → slice_get xs k ≡ Some x → drop k xs ≡ x ∷ drop (suc k) xs
head_is k [] x there = cc
head_is zero (z ∷ xs) x there = let same : z ≡ x = cc there in ap (λ y. y ∷ xs) same
head_is (suc k) (z ∷ xs) x there = head_is k xs x there

any_step : {X : Type 0} (b : Bool) (x : X) (a : Bool) (r : Option X) → a ≡ is_some r → (b || a) ≡ is_some (cond b (Some x) r)
any_step true x a r same = refl
any_step false x a r same = same

pub any_of_find : {X : Type 0} (p : X → Bool) (xs : List X) → list_any p xs ≡ is_some (find p xs)
any_of_find p [] = refl
any_of_find p (x ∷ xs) = any_step (p x) x (list_any p xs) (find p xs) (any_of_find p xs)

pub any_of_no_position : {X : Type 0} (p : X → Bool) (xs : List X) → position p xs ≡ None → list_any p xs ≡ false
any_of_no_position p xs none = any_of_find p xs ∙ ap (λ o. is_some o) (find_of_no_position p xs none)

pub any_of_position : {X : Type 0} (p : X → Bool) (xs : List X) (n : ℕ) → position p xs ≡ Some n → list_any p xs ≡ true
any_of_position p xs n found =
    any_of_find p xs ∙ (ap (λ o. is_some o) (find_of_position p xs n found) ∙ is_there p xs n found)

-- ---- the length that END gives changes no place

abbrev pub longer : ℕ → Numbered → Numbered
longer n x = record { esdid = x.esdid; item = record x.item { length = n } }

length_step : (b : Bool) (n : ℕ) (x : Numbered) (xs longer_xs : List Numbered) → length longer_xs ≡ length xs
    → length (if b then longer n x ∷ xs else x ∷ longer_xs) ≡ length (x ∷ xs)
length_step true n x xs longer_xs same = refl
length_step false n x xs longer_xs same = ap (λ m. suc m) same

pub length_of_longer : (n : ℕ) (xs : List Numbered) → length (with_length n xs) ≡ length xs
length_of_longer n [] = refl
length_of_longer n (x ∷ xs) = length_step (lacks_length x) n x xs (with_length n xs) (length_of_longer n xs)

place_step : (b : Bool) (id n : ℕ) (x : Numbered) (xs longer_xs : List Numbered)
    → position_or_len (has_esdid id) longer_xs ≡ position_or_len (has_esdid id) xs
    → position_or_len (has_esdid id) (if b then longer n x ∷ xs else x ∷ longer_xs) ≡ position_or_len (has_esdid id) (x ∷ xs)
place_step true id n x xs longer_xs same = refl
place_step false id n x xs longer_xs same = ap (λ m. cond (not (has_esdid id x)) (1 + m) 0) same

pub place_of_longer : (id n : ℕ) (xs : List Numbered) → position_or_len (has_esdid id) (with_length n xs) ≡ position_or_len (has_esdid id) xs
place_of_longer id n [] = refl
place_of_longer id n (x ∷ xs) = place_step (lacks_length x) id n x xs (with_length n xs) (place_of_longer id n xs)

-- the length is given to the item at k, where none before lacks it
pub given_at : (n k : ℕ) (xs : List Numbered) (x : Numbered)
    → slice_get xs k ≡ Some x → lacks_length x ≡ true
    → take k xs ++ with_length n (drop k xs) ≡ with_length n xs → set xs k (longer n x) ≡ with_length n xs
given_at n k xs x there lacks before = set_is_split k xs x (longer n x) there ∙ (ap (λ ys. take k xs ++ ys) (at_head (lacks_length x) lacks) ∙ (ap (λ ys. take k xs ++ with_length n ys) (sym (head_is k xs x there)) ∙ before))
  where
    at_head : (b : Bool) → b ≡ true → longer n x ∷ drop (suc k) xs ≡ (if b then longer n x ∷ drop (suc k) xs else x ∷ with_length n (drop (suc k) xs))
    at_head true h = refl
    at_head false h = cc

take_is_more : {X : Type 0} (k : ℕ) (xs : List X) (x : X) → slice_get xs k ≡ Some x → take (suc k) xs ≡ take k xs ++ x ∷ []
take_is_more k [] x there = cc
take_is_more zero (z ∷ xs) x there = let same : z ≡ x = cc there in ap (λ y. y ∷ []) same
take_is_more (suc k) (z ∷ xs) x there = ap (λ ys. z ∷ ys) (take_is_more k xs x there)

passed_step : (b : Bool) (n : ℕ) (x : Numbered) (xs ys : List Numbered) → b ≡ false → (if b then longer n x ∷ xs else x ∷ ys) ≡ x ∷ ys
passed_step true n x xs ys is = cc
passed_step false n x xs ys is = refl

-- the item at k does not lack it
pub passed_at : (n k : ℕ) (xs : List Numbered) (x : Numbered)
    → slice_get xs k ≡ Some x → lacks_length x ≡ false
    → take k xs ++ with_length n (drop k xs) ≡ with_length n xs → take (k + 1) xs ++ with_length n (drop (k + 1) xs) ≡ with_length n xs
passed_at n k xs x there has before =
    ap (λ m. take m xs ++ with_length n (drop m xs)) (add-one k)
    ∙ (ap (λ ys. ys ++ with_length n (drop (suc k) xs)) (take_is_more k xs x there)
    ∙ (append_assoc (take k xs) (x ∷ []) (with_length n (drop (suc k) xs))
    ∙ (ap (λ ys. take k xs ++ ys) (sym (passed_step (lacks_length x) n x (drop (suc k) xs) (with_length n (drop (suc k) xs)) has))
    ∙ (ap (λ ys. take k xs ++ with_length n ys) (sym (head_is k xs x there)) ∙ before))))

pub number_of_longer : (id n : ℕ) (xs : List Numbered) → number_of id (with_length n xs) ≡ number_of id xs
number_of_longer id n xs =
    ap (λ m. cond (nat_lt m (length (with_length n xs))) (Some m) None) (place_of_longer id n xs)
    ∙ ap (λ l. cond (nat_lt (position_or_len (has_esdid id) xs) l) (Some (position_or_len (has_esdid id) xs)) None) (length_of_longer n xs)

-- a list written anew from its first item on is what was written
pub refilled : {X : Type 0} (n : ℕ) (new old : List X) → n ≡ length new → take n (new ++ drop (length new) old) ≡ new
refilled n new old size = grind (arith, common_steps, size)
