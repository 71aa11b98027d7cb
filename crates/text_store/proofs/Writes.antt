-- What is read of a content into which bytes were written.
use Rattle.std.proofs.Common.{arith, ◌≡◌, ◌≢◌, ℕ, zero, suc, Bool, true, false, ◌==◌, ◌+◌, ◌-◌, ◌<◌, ◌≤◌, List, [], ◌∷◌, ◌++◌, length, take, drop, get_or, slice_set, refl, sym, ◌∙◌, ap, subst, add_assoc, append_assoc, length-append}
use Rattle.std.proofs.lemmas.Grind.{common_steps}
use Rattle.std.proofs.lemmas.List.{get_or-set_same, get_or-set_other, set-get_or, length-set}
use Rattle.text_store.specs.Content.{section_of, overwritten, with_bytes, LieInContent}
use Rattle.text_store.specs.Overwriting.{whole}
pub use Rattle.text_store.specs.Overwriting.{length_overwritten, field_before, rest_after, field_after}

-- ---- one list

pub overwritten_none : (xs : List ℕ) (at : ℕ) → at ≤ length xs → overwritten xs at [] ≡ xs
overwritten_none xs at fits = grind (arith, common_steps)

-- bytes written in two parts
two_parts : (xs first second : List ℕ) (at : ℕ) → at + length first + length second ≤ length xs
    → overwritten (overwritten xs at first) (at + length first) second ≡ overwritten xs at (first ++ second)
two_parts xs first second at fits =
    let taken : length (take at xs) ≡ at = grind (arith, common_steps) in
    let both : length (take at xs ++ first) ≡ at + length first = length-append (take at xs) first ∙ ap (λ m. m + length first) taken in
    let head : take (at + length first) (overwritten xs at first) ≡ take at xs ++ first =
    ap (take (at + length first)) (sym (append_assoc (take at xs) first (drop (at + length first) xs)))
    ∙ taken_front (take at xs ++ first) (drop (at + length first) xs) (at + length first) both in
    let tail : drop (at + length first + length second) (overwritten xs at first) ≡ drop (at + length first + length second) xs =
    rest_after xs first at (at + length first + length second) (omega (arith, fits)) (omega arith) in
    let size : length (first ++ second) ≡ length first + length second = length-append first second in
    rw (head, tail, size) (shuffled (take at xs) first second _ _ (ap (λ m. drop m xs) (add_assoc at (length first) (length second))))
  where
    taken_front : (p r : List ℕ) (m : ℕ) → length p ≡ m → take m (p ++ r) ≡ p
    taken_front p r m size = grind (arith, common_steps)

    shuffled : (p q r s t : List ℕ) → s ≡ t → (p ++ q) ++ (r ++ s) ≡ p ++ ((q ++ r) ++ t)
    shuffled p q r s t same = rw same (simp append_assoc)

pub overwritten_parts : (xs bytes : List ℕ) (at n : ℕ) → at + length bytes ≤ length xs → n ≤ length bytes
    → overwritten (overwritten xs at (take n bytes)) (at + n) (drop n bytes) ≡ overwritten xs at bytes
overwritten_parts xs bytes at n fits some =
    let size : length (take n bytes) ≡ n = grind (arith, common_steps) in
    let both : length (take n bytes) + length (drop n bytes) ≡ length bytes = grind (arith, common_steps) in
    subst (λ m. overwritten (overwritten xs at (take n bytes)) (at + m) (drop n bytes) ≡ overwritten xs at bytes) size
    (two_parts xs (take n bytes) (drop n bytes) at (omega (arith, both, fits)) ∙ ap (overwritten xs at) (whole bytes n))

pub byte_inside : (xs bytes : List ℕ) (at o : ℕ) → at + length bytes ≤ length xs → at ≤ o → o < at + length bytes
    → get_or (overwritten xs at bytes) o 0 ≡ get_or bytes (o - at) 0
byte_inside xs bytes at o fits low high = grind (arith, common_steps)

pub byte_before : (xs bytes : List ℕ) (at o : ℕ) → at + length bytes ≤ length xs → o < at
    → get_or (overwritten xs at bytes) o 0 ≡ get_or xs o 0
byte_before xs bytes at o fits low = grind (arith, common_steps)

pub byte_after : (xs bytes : List ℕ) (at o : ℕ) → at + length bytes ≤ length xs → at + length bytes ≤ o
    → get_or (overwritten xs at bytes) o 0 ≡ get_or xs o 0
byte_after xs bytes at o fits high = grind (arith, common_steps)

-- ---- a content

pub section_written : (X : List (List ℕ)) (i at : ℕ) (bytes : List ℕ) → i < length X
    → section_of (with_bytes X i at bytes) i ≡ overwritten (section_of X i) at bytes
section_written X i at bytes there = get_or-set_same X i (overwritten (section_of X i) at bytes) [] there

pub section_other : (X : List (List ℕ)) (i j at : ℕ) (bytes : List ℕ) → j ≢ i → section_of (with_bytes X i at bytes) j ≡ section_of X j
section_other X i j at bytes other = get_or-set_other X i j (overwritten (section_of X i) at bytes) [] other

pub length_with_bytes : (X : List (List ℕ)) (i at : ℕ) (bytes : List ℕ) → length (with_bytes X i at bytes) ≡ length X
length_with_bytes X i at bytes = length-set X i (overwritten (section_of X i) at bytes)

pub section_length_with_bytes : (X : List (List ℕ)) (i at : ℕ) (bytes : List ℕ) (j : ℕ) → LieInContent X i at (length bytes)
    → length (section_of (with_bytes X i at bytes) j) ≡ length (section_of X j)
section_length_with_bytes X i at bytes j inside = by_cases (j == i) refl
  where
    by_cases : (b : Bool) → (j == i) ≡ b → length (section_of (with_bytes X i at bytes) j) ≡ length (section_of X j)
    by_cases true same =
        let is : j ≡ i = grind (arith, same) in
        rw is (ap length (section_written X i at bytes inside.there) ∙ length_overwritten (section_of X i) bytes at inside.inside)
    by_cases false other = ap length (section_other X i j at bytes (grind (arith, other)))

-- what lies in the content lies in it after the write
pub lies_after : (X : List (List ℕ)) (i at : ℕ) (bytes : List ℕ) (j o n : ℕ) → LieInContent X i at (length bytes) → LieInContent X j o n
    → LieInContent (with_bytes X i at bytes) j o n
lies_after X i at bytes j o n inside lies = record {
  there = subst (λ m. j < m) (sym (length_with_bytes X i at bytes)) lies.there;
  inside = subst (λ m. o + n ≤ m) (sym (section_length_with_bytes X i at bytes j inside)) lies.inside;
}

pub with_no_bytes : (X : List (List ℕ)) (i at : ℕ) → LieInContent X i at 0 → with_bytes X i at [] ≡ X
with_no_bytes X i at inside =
    ap (slice_set X i) (overwritten_none (section_of X i) at (omega (arith, inside.inside))) ∙ set-get_or X i []

pub with_bytes_parts : (X : List (List ℕ)) (i at n : ℕ) (bytes : List ℕ) → LieInContent X i at (length bytes) → n ≤ length bytes
    → with_bytes (with_bytes X i at (take n bytes)) i (at + n) (drop n bytes) ≡ with_bytes X i at bytes
with_bytes_parts X i at n bytes inside some =
    let there : section_of (with_bytes X i at (take n bytes)) i ≡ overwritten (section_of X i) at (take n bytes) = section_written X i at (take n bytes) inside.there in
    ap (λ xs. slice_set (with_bytes X i at (take n bytes)) i (overwritten xs (at + n) (drop n bytes))) there
    ∙ (ap (slice_set (with_bytes X i at (take n bytes)) i) (overwritten_parts (section_of X i) bytes at n inside.inside some)
    ∙ set_twice X i (overwritten (section_of X i) at (take n bytes)) (overwritten (section_of X i) at bytes))
  where
    set_twice : (X : List (List ℕ)) (i : ℕ) (xs ys : List ℕ) → slice_set (slice_set X i xs) i ys ≡ slice_set X i ys
    set_twice [] i xs ys = refl
    set_twice (x ∷ X) zero xs ys = refl
    set_twice (x ∷ X) (suc i) xs ys = ap (λ zs. x ∷ zs) (set_twice X i xs ys)
