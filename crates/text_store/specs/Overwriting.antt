-- What is read of a list into which bytes were written.
use Rattle.std.proofs.Common.{arith, ◌≡◌, ℕ, ◌+◌, ◌-◌, ◌≤◌, List, ◌++◌, length, take, drop, sym, ◌∙◌, ap, append_assoc, length-append}
use Rattle.std.proofs.lemmas.Grind.{common_steps}
use Rattle.std.proofs.lemmas.List.{take-append-drop}
use Rattle.std.proofs.Math.Seq.{drop-append-add}
use Rattle.text_store.specs.Content.{overwritten}

pub length_overwritten : (xs bytes : List ℕ) (at : ℕ) → at + length bytes ≤ length xs → length (overwritten xs at bytes) ≡ length xs
length_overwritten xs bytes at fits = grind (arith, common_steps)

-- what is taken of a front, and what is left of a back
front : (p r : List ℕ) (o n : ℕ) → o + n ≤ length p → take n (drop o (p ++ r)) ≡ take n (drop o p)
front p r o n fits = grind (arith, common_steps)

back : (p r : List ℕ) (o k : ℕ) → o ≡ length p + k → drop o (p ++ r) ≡ drop k r
back p r o k same = rw same (drop-append-add p r k)

pub whole : (xs : List ℕ) (at : ℕ) → take at xs ++ drop at xs ≡ xs
whole xs at = take-append-drop at xs

-- places before and after the write
pub field_before : (xs bytes : List ℕ) (at o n : ℕ) → at + length bytes ≤ length xs → o + n ≤ at
    → take n (drop o (overwritten xs at bytes)) ≡ take n (drop o xs)
field_before xs bytes at o n fits before =
    let size : length (take at xs) ≡ at = grind (arith, common_steps) in
    let short : o + n ≤ length (take at xs) = omega (arith, size, before) in
    front (take at xs) (bytes ++ drop (at + length bytes) xs) o n short
    ∙ (sym (front (take at xs) (drop at xs) o n short) ∙ ap (λ ys. take n (drop o ys)) (whole xs at))

pub rest_after : (xs bytes : List ℕ) (at o : ℕ) → at + length bytes ≤ length xs → at + length bytes ≤ o
    → drop o (overwritten xs at bytes) ≡ drop o xs
rest_after xs bytes at o fits after =
    let taken : length (take at xs) ≡ at = grind (arith, common_steps) in
    let left : length (take at xs ++ bytes) ≡ at + length bytes = length-append (take at xs) bytes ∙ ap (λ m. m + length bytes) taken in
    let right : length (take (at + length bytes) xs) ≡ at + length bytes = grind (arith, common_steps) in
    let k : ℕ = o - (at + length bytes) in
    ap (drop o) (sym (append_assoc (take at xs) bytes (drop (at + length bytes) xs)))
    ∙ (back (take at xs ++ bytes) (drop (at + length bytes) xs) o k (omega (arith, left, after))
    ∙ (sym (back (take (at + length bytes) xs) (drop (at + length bytes) xs) o k (omega (arith, right, after)))
    ∙ ap (drop o) (whole xs (at + length bytes))))

pub field_after : (xs bytes : List ℕ) (at o n : ℕ) → at + length bytes ≤ length xs → at + length bytes ≤ o
    → take n (drop o (overwritten xs at bytes)) ≡ take n (drop o xs)
field_after xs bytes at o n fits after = ap (take n) (rest_after xs bytes at o fits after)
