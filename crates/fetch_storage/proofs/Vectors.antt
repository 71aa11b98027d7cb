-- A write into one of several vectors, as a write into its bytes.
use Rattle.std.proofs.Common.{arith, ◌≡◌, ℕ, ◌+◌, ◌<◌, ◌≤◌, List, [], ◌++◌, length, take, drop, map, get_or, refl, sym, ◌∙◌, ap, subst, Some, slice_get, slice_set}
use Rattle.std.specs.Option.{option_map}
use Rattle.std.specs.Vec.{with_items_from}
use Rattle.std.specs.Global.{Vec}
use Rattle.std.proofs.lemmas.Grind.{common_steps}
use Rattle.std.proofs.lemmas.List.{map-set, length-map}
use Rattle.std.proofs.lemmas.Option.{slice_get-map, get_or_from_slice_get, slice_get_read}
use Rattle.text_store.specs.Content.{section_of, overwritten, with_bytes, LieInContent}

-- a list that was lent whole and written in its middle
refilled : (xs bytes : List ℕ) (at n : ℕ) → n ≡ length xs → at + length bytes ≤ length xs
    → take n ((take at xs ++ (bytes ++ drop (length bytes) (drop at xs))) ++ drop (length (take at xs ++ (bytes ++ drop (length bytes) (drop at xs)))) xs)
    ≡ overwritten xs at bytes
refilled xs bytes at n size fits = grind (arith, common_steps)

-- the bytes of a room after a write of as many as were lent
lent : (v : Vec ℕ) (at : ℕ) (bytes : List ℕ) → at + length bytes ≤ length v.items
    → (with_items_from v at bytes).items ≡ overwritten v.items at bytes
lent v at bytes fits = refilled v.items bytes at v.len v.ok.0 fits

-- the bytes of a room that is there
pub room_there : (xs : List (Vec ℕ)) (i : ℕ) (v : Vec ℕ) → slice_get xs i ≡ Some v → section_of (map (λ v. v.items) xs) i ≡ v.items
room_there xs i v found =
    get_or_from_slice_get (map (λ v. v.items) xs) i v.items [] (slice_get-map (λ v. v.items) xs i ∙ ap (option_map (λ v. v.items)) found)

-- the bytes of all rooms after a write into one that is there
pub rewritten_there : (xs : List (Vec ℕ)) (i at : ℕ) (bytes : List ℕ) (v : Vec ℕ)
    → LieInContent (map (λ v. v.items) xs) i at (length bytes) → slice_get xs i ≡ Some v
    → map (λ v. v.items) (slice_set xs i (with_items_from v at bytes)) ≡ with_bytes (map (λ v. v.items) xs) i at bytes
rewritten_there xs i at bytes v inside found =
    let same : section_of (map (λ v. v.items) xs) i ≡ v.items = room_there xs i v found in
    let fits : at + length bytes ≤ length v.items = subst (λ ys. at + length bytes ≤ length ys) same inside.inside in
    map-set (λ v. v.items) xs i (with_items_from v at bytes)
    ∙ ap (slice_set (map (λ v. v.items) xs) i) (lent v at bytes fits ∙ ap (λ ys. overwritten ys at bytes) (sym same))

-- the room that an index read gives is the one that is found
pub found_there : (xs : List (Vec ℕ)) (i at n : ℕ) (v : Vec ℕ) → LieInContent (map (λ v. v.items) xs) i at n → v ≡ get_or xs i v
    → slice_get xs i ≡ Some v
found_there xs i at n v inside same =
    let there : i < length xs = subst (λ n. i < n) (length-map xs (λ v. v.items)) inside.there in
    slice_get_read xs (length xs) i v refl there same
