-- Sums over the first elements of a list, rounded lengths, and the law that sections of one segment are apart.
use Rattle.std.proofs.Common.{◌≡◌, ℕ, ◌+◌, ◌<◌, ◌≤◌, List, take, length, sum_by, get_or, Some, slice_get, arith, ap, sym, take-take}
use Rattle.std.proofs.lemmas.List.Sums.{sum_by_more, sum_by-take-le}
use Rattle.std.proofs.lemmas.Option.{get_or_from_slice_get, slice_get_within}
use Rattle.sym_mod.specs.declared.program.Section.{Section}
use Rattle.linking_model.specs.Numbers.{round8}
use Rattle.linking_model.specs.Places.{place, place_after, room_in}
use Rattle.linking_model.proofs.Trees.{if_same}
use Rattle.linking_model.specs.Laws.{SectionsAreApart}

-- the sum before element i and that element are within the sum before a later one
sum_by-before : {X : Type 0} (f : X → ℕ) (xs : List X) (i j : ℕ) (x : X) → i < j → slice_get xs i ≡ Some x → sum_by f (take i xs) + f x ≤ sum_by f (take j xs)
sum_by-before f xs i j x low there =
    let inside : i < length xs = slice_get_within xs i x there in
    let own : get_or xs i x ≡ x = get_or_from_slice_get xs i x x there in
    let through : sum_by f (take (i + 1) xs) ≡ sum_by f (take i xs) + f (get_or xs i x) = sum_by_more f xs i x inside in
    let short : take (i + 1) (take j xs) ≡ take (i + 1) xs = take-take (i + 1) j xs (omega arith) in
    let within : sum_by f (take (i + 1) xs) ≤ sum_by f (take j xs) = rw (sym short) (sum_by-take-le f (take j xs) (i + 1)) in
    let same : f (get_or xs i x) ≡ f x = ap f own in
    grind (arith, through, within, same)

pub round8-bound : (n : ℕ) → n ≤ round8 n
round8-bound n = omega arith

-- what stands in a segment after a section of it stands behind that section
apart_in : (base : ℕ) (sections : List Section) (i j : ℕ) (x : Section) → i < j → slice_get sections i ≡ Some x → base + sum_by (room_in x.segment) (take i sections) + x.length ≤ base + sum_by (room_in x.segment) (take j sections)
apart_in base sections i j x low there =
    let before : sum_by (room_in x.segment) (take i sections) + room_in x.segment x ≤ sum_by (room_in x.segment) (take j sections) = sum_by-before (room_in x.segment) sections i j x low there in
    let room : room_in x.segment x ≡ round8 x.length = if_same x.segment (round8 x.length) 0 in
    let rounded : x.length ≤ round8 x.length = round8-bound x.length in
    grind (arith, before, room, rounded)

pub sections_are_apart : SectionsAreApart
unfolding place place_after
sections_are_apart P i j x y low there later same =
    rw (there, later, sym same) (apart_in _ P.program.sections i j x low there)
