-- Bytes written into a list that a function of the place gives.
use Rattle.std.proofs.Common.{arith, ◌≡◌, ℕ, ◌+◌, ◌-◌, ◌<◌, ◌≤◌, if◌then◌else◌, List, ◌++◌, length, take, drop, map, slice_index, get_or, sym, ◌∙◌, ap, subst}
use Rattle.std.specs.List.{range_with_len}
use Rattle.std.proofs.lemmas.Grind.{common_steps}
use Rattle.std.proofs.lemmas.List.{ext_get_or}
use Rattle.std.proofs.lemmas.List.FromFn.{get_or-map-range_with_len, length-map-range_with_len}
use Rattle.linking_model.specs.Numbers.{is_among}

-- the byte at o after the write
abbrev pub byte_after : (ℕ → ℕ) → ℕ → List ℕ → ℕ → ℕ
byte_after f off bytes o = if is_among off (length bytes) o then slice_index bytes (o - off) else f o

length_written : (xs bytes : List ℕ) (off : ℕ) → off + length bytes ≤ length xs
    → length (take off xs ++ (bytes ++ drop (off + length bytes) xs)) ≡ length xs
length_written xs bytes off h = grind (arith, common_steps)

read_written : (xs bytes : List ℕ) (off i : ℕ) → off + length bytes ≤ length xs → i < length xs
    → get_or (take off xs ++ (bytes ++ drop (off + length bytes) xs)) i 0
    ≡ (if is_among off (length bytes) i then slice_index bytes (i - off) else get_or xs i 0)
read_written xs bytes off i h within = grind (arith, common_steps)

-- where g says each byte after the write, the list is g's
pub written : (f g : ℕ → ℕ) (n off : ℕ) (bytes : List ℕ) → off + length bytes ≤ n
    → ((o : ℕ) → o < n → g o ≡ byte_after f off bytes o)
    → take off (map f (range_with_len 0 n)) ++ (bytes ++ drop (off + length bytes) (map f (range_with_len 0 n)))
    ≡ map g (range_with_len 0 n)
written f g n off bytes h says =
    let size : length (map f (range_with_len 0 n)) ≡ n = length-map-range_with_len f 0 n in
    let fits : off + length bytes ≤ length (map f (range_with_len 0 n)) = rw size h in
    let same : length (take off (map f (range_with_len 0 n)) ++ (bytes ++ drop (off + length bytes) (map f (range_with_len 0 n)))) ≡ n =
    length_written (map f (range_with_len 0 n)) bytes off fits ∙ size in
    ext_get_or 0 _ _ (same ∙ sym (length-map-range_with_len g 0 n))
    (λ i within. let below : i < n = subst (λ m. i < m) same within in
    read_written (map f (range_with_len 0 n)) bytes off i fits (rw size below)
    ∙ (ap (λ x. if is_among off (length bytes) i then slice_index bytes (i - off) else x)
    (get_or-map-range_with_len f 0 n i i 0 below (omega arith))
    ∙ (sym (says i below) ∙ sym (get_or-map-range_with_len g 0 n i i 0 below (omega arith)))))
