-- New numbers, and how they are looked up.
use Rattle.std.proofs.Common.{◌≡◌, ℕ, ◌+◌, ◌<◌, ◌≤◌, Bool, true, false, not, cond, List, [], ◌∷◌, zero, suc, length, take, get_or, Some, None, refl, sym, ap, ◌∙◌, arith, zero-add}
use Rattle.std.specs.Prelude.{slice_get}
use Rattle.std.specs.Option.{option_map_or}
use Rattle.std.proofs.lemmas.List.Sums.{count_by-le-length, sum_by-cons}
use Rattle.std.proofs.lemmas.List.{length-take}
use Rattle.sym_edit.specs.Counted.{counts_from}
use Rattle.sym_edit.specs.Without.{stays, stay_before, new_number}

pub length-counts_from : (gone : List Bool) (n : ℕ) → length (counts_from n gone) ≡ length gone
length-counts_from [] n = refl
length-counts_from (true ∷ gone) n = grind (arith, length-counts_from gone n)
length-counts_from (false ∷ gone) n = grind (arith, length-counts_from gone (n + 1))

-- an item that stays counts for those after it
pub stay_before-staying : (gone : List Bool) (i : ℕ) → stay_before (false ∷ gone) (suc i) ≡ suc (stay_before gone i)
stay_before-staying gone i = omega (arith, sum_by-cons (λ g. cond (not g) 1 0) false (take i gone))

pub stay_before-going : (gone : List Bool) (i : ℕ) → stay_before (true ∷ gone) (suc i) ≡ stay_before gone i
stay_before-going gone i = omega (arith, sum_by-cons (λ g. cond (not g) 1 0) true (take i gone))

counts_get : (gone : List Bool) (n i : ℕ) → i < length gone → (d : ℕ) → get_or (counts_from n gone) i d ≡ n + stay_before gone i
counts_get [] n i in' d = absurd (omega arith)
counts_get (h ∷ gone) n zero in' d = omega arith
counts_get (true ∷ gone) n (suc i) in' d = counts_get gone n i (omega arith) d ∙ omega (arith, stay_before-going gone i)
counts_get (false ∷ gone) n (suc i) in' d = counts_get gone (n + 1) i (omega arith) d ∙ omega (arith, stay_before-staying gone i)

pub stay_before-le : (gone : List Bool) (i : ℕ) → stay_before gone i ≤ i
stay_before-le gone i = omega (arith, count_by-le-length not (take i gone), length-take i gone)

-- an item that stays is one of the module
pub stays_within : (gone : List Bool) (i : ℕ) → stays gone i ≡ true → i < length gone
stays_within [] i is = absurd (cc is)
stays_within (g ∷ gone) zero is = omega arith
stays_within (g ∷ gone) (suc i) is = omega (arith, stays_within gone i is)

-- its place in the counts is there
pub counted_within : (gone : List Bool) (before : List ℕ) (i : ℕ) → before ≡ counts_from 0 gone → stays gone i ≡ true → i < length before
counted_within gone before i is staying = omega (arith, ap length is, length-counts_from gone 0, stays_within gone i staying)

-- and holds how many stay before it
pub counted_is : (gone : List Bool) (before : List ℕ) (i : ℕ) → before ≡ counts_from 0 gone → stays gone i ≡ true → get_or before i 0 ≡ stay_before gone i
counted_is gone before i is staying = ap (λ xs. get_or xs i 0) is ∙ counts_get gone 0 i (stays_within gone i staying) 0 ∙ zero-add (stay_before gone i)

-- which is not above its place
pub counted_below : (gone : List Bool) (before : List ℕ) (i : ℕ) → before ≡ counts_from 0 gone → stays gone i ≡ true → get_or before i 0 ≤ i
counted_below gone before i is staying = omega (arith, counted_is gone before i is staying, stay_before-le gone i)

-- the new number of an item that stays
pub number_is : (gone : List Bool) (before : List ℕ) (i : ℕ) → before ≡ counts_from 0 gone → stays gone i ≡ true → Some (get_or before i 0) ≡ new_number gone i
unfolding new_number
number_is gone before i is staying = ap Some (counted_is gone before i is staying) ∙ rw staying refl

number_case : (b : Bool) (i n k : ℕ) → cond b (Some k) None ≡ Some n → (b ≡ true) × (k ≡ n)
number_case true i n k is = (refl, some_injective k n is)
  where
    some_injective : (k n : ℕ) → Some k ≡ Some n → k ≡ n
    some_injective k n is = cc is
number_case false i n k is = absurd (cc is)

-- an item with a new number stays, and the number says how many stay before it
pub numbered : (gone : List Bool) (i n : ℕ) → new_number gone i ≡ Some n → (stays gone i ≡ true) × (stay_before gone i ≡ n)
unfolding new_number
numbered gone i n is = number_case (stays gone i) i n (stay_before gone i) is

-- no two items that stay have one number
pub same_place : (gone : List Bool) (i j : ℕ) → stays gone i ≡ true → stays gone j ≡ true → stay_before gone i ≡ stay_before gone j → i ≡ j
same_place [] i j one two same = absurd (cc one)
same_place (g ∷ gone) zero zero one two same = refl
same_place (true ∷ gone) zero (suc j) one two same = absurd (cc one)
same_place (true ∷ gone) (suc i) zero one two same = absurd (cc two)
same_place (false ∷ gone) zero (suc j) one two same = absurd (omega (arith, same, stay_before-staying gone j))
same_place (false ∷ gone) (suc i) zero one two same = absurd (omega (arith, same, stay_before-staying gone i))
same_place (true ∷ gone) (suc i) (suc j) one two same = ap suc (same_place gone i j one two (sym (stay_before-going gone i) ∙ same ∙ stay_before-going gone j))
same_place (false ∷ gone) (suc i) (suc j) one two same = ap suc (same_place gone i j one two (omega (arith, same, stay_before-staying gone i, stay_before-staying gone j)))

-- ---- what stays or goes, by the list

pub staying : (gone : List Bool) (i : ℕ) → slice_get gone i ≡ Some false → stays gone i ≡ true
staying gone i is = ap (λ o. option_map_or not o false) is

pub number_staying : (gone : List Bool) (i : ℕ) → stays gone i ≡ true → new_number gone i ≡ Some (stay_before gone i)
unfolding new_number
number_staying gone i is = rw is refl

pub number_going : (gone : List Bool) (i : ℕ) → stays gone i ≡ false → new_number gone i ≡ None
unfolding new_number
number_going gone i is = rw is refl
