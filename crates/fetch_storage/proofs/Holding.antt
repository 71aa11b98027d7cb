-- Parts that hold what storage has at their addresses.
use Rattle.std.proofs.Common.{arith, ◌≡◌, ◌≢◌, ℕ, zero, suc, ◌+◌, ◌-◌, ◌<◌, ◌≤◌, ◌⊎◌, inl, inr, Bool, true, false, List, [], ◌∷◌, length, map, take, drop, get_or, slice_get, slice_set, count_by, refl, sym, ◌∙◌, ap, subst, Some}
use Rattle.std.specs.List.{range_with_len}
use Rattle.std.specs.Option.{option_map}
use Rattle.std.proofs.lemmas.Grind.{common_steps}
use Rattle.std.proofs.lemmas.List.{ext_get_or}
use Rattle.std.proofs.lemmas.List.FromFn.{get_or-map-range_with_len, length-map-range_with_len}
use Rattle.std.proofs.lemmas.Option.{slice_get-map, get_or_from_slice_get, none-some}
use Rattle.linking_model.specs.Numbers.{is_among}
use Rattle.linking_model.specs.Run.{Storage, with_piece, list_piece}
use Rattle.text_store.specs.Content.{section_of, overwritten, with_bytes}
use Rattle.text_store.proofs.Writes.{length_overwritten, byte_inside, byte_before, byte_after}
use Rattle.fetch_places.specs.declared.extent.Extent.{Extent}
use Rattle.fetch_places.specs.Extents.{has, StandApart}
use Rattle.fetch_places.proofs.Apart.{held_first}
use Rattle.fetch_storage.specs.Held.{bytes_in}
use Rattle.fetch_storage.proofs.Adding.{same_map, inside_piece, outside_piece}

pub length_held : (M : Storage) (x : Extent) → length (bytes_in M x) ≡ x.count
length_held M x = length-map-range_with_len M x.at x.count

pub byte_held : (M : Storage) (x : Extent) (i : ℕ) → i < x.count → get_or (bytes_in M x) i 0 ≡ M (x.at + i)
byte_held M x i below = get_or-map-range_with_len M x.at x.count i (x.at + i) 0 below refl

-- ---- reading

taken_byte : (ys : List ℕ) (o n i : ℕ) → i < n → o + n ≤ length ys → get_or (take n (drop o ys)) i 0 ≡ get_or ys (o + i) 0
taken_byte ys o n i below fits = grind (arith, common_steps)

taken_length : (ys : List ℕ) (o n : ℕ) → o + n ≤ length ys → length (take n (drop o ys)) ≡ n
taken_length ys o n fits = grind (arith, common_steps)

-- a part of what is held
pub field_held : (M : Storage) (x : Extent) (o n : ℕ) → o + n ≤ x.count → take n (drop o (bytes_in M x)) ≡ map M (range_with_len (x.at + o) n)
field_held M x o n fits =
    let long : o + n ≤ length (bytes_in M x) = subst (λ k. o + n ≤ k) (sym (length_held M x)) fits in
    let size : length (take n (drop o (bytes_in M x))) ≡ n = taken_length (bytes_in M x) o n long in
    ext_get_or 0 (take n (drop o (bytes_in M x))) (map M (range_with_len (x.at + o) n)) (size ∙ sym (length-map-range_with_len M (x.at + o) n))
    (λ i within. let below : i < n = subst (λ k. i < k) size within in
    taken_byte (bytes_in M x) o n i below long
    ∙ (byte_held M x (o + i) (omega (arith, below, fits))
    ∙ sym (get_or-map-range_with_len M (x.at + o) n i (x.at + (o + i)) 0 below (omega arith))))

pub section_held : (M : Storage) (xs : List Extent) (i : ℕ) (x : Extent) → slice_get xs i ≡ Some x → section_of (map (bytes_in M) xs) i ≡ bytes_in M x
section_held M xs i x found =
    get_or_from_slice_get (map (bytes_in M) xs) i (bytes_in M x) [] (slice_get-map (bytes_in M) xs i ∙ ap (option_map (bytes_in M)) found)

-- ---- writing

-- what is held after a piece is written into it
pub written_held : (M : Storage) (x : Extent) (o : ℕ) (bytes : List ℕ) → o + length bytes ≤ x.count
    → overwritten (bytes_in M x) o bytes ≡ bytes_in (with_piece M (list_piece (x.at + o) bytes)) x
written_held M x o bytes fits =
    ext_get_or 0 (overwritten (bytes_in M x) o bytes) (bytes_in N x) (size ∙ sym (length_held N x))
    (λ i within. let below : i < x.count = subst (λ k. i < k) size within in
    byte i below ∙ sym (byte_held N x i below))
  where
    N : Storage
    N = with_piece M (list_piece (x.at + o) bytes)

    long : o + length bytes ≤ length (bytes_in M x)
    long = subst (λ k. o + length bytes ≤ k) (sym (length_held M x)) fits

    size : length (overwritten (bytes_in M x) o bytes) ≡ x.count
    size = length_overwritten (bytes_in M x) bytes o long ∙ length_held M x

    place : (i : ℕ) → o ≤ i → (x.at + i) - (x.at + o) ≡ i - o
    place i from = omega (arith, from)

    by_side : (i : ℕ) → i < x.count → (t : Bool) → is_among o (length bytes) i ≡ t → (u : Bool) → is_among 0 o i ≡ u
        → get_or (overwritten (bytes_in M x) o bytes) i 0 ≡ with_piece M (list_piece (x.at + o) bytes) (x.at + i)
    by_side i below true inside u low =
        let from : o ≤ i = grind (arith, inside) in
        let to : i < o + length bytes = grind (arith, inside) in
        byte_inside (bytes_in M x) bytes o i long from to
        ∙ (ap (λ k. get_or bytes k 0) (sym (place i from))
        ∙ sym (inside_piece M (x.at + o) (x.at + i) bytes (grind (arith, from, to))))
    by_side i below false outside true low =
        let before : i < o = grind (arith, low) in
        byte_before (bytes_in M x) bytes o i long before
        ∙ (byte_held M x i below ∙ sym (outside_piece M (x.at + o) (x.at + i) bytes (grind (arith, before))))
    by_side i below false outside false high =
        let after : o + length bytes ≤ i = grind (arith, outside, high) in
        byte_after (bytes_in M x) bytes o i long after
        ∙ (byte_held M x i below ∙ sym (outside_piece M (x.at + o) (x.at + i) bytes (grind (arith, after))))

    byte : (i : ℕ) → i < x.count → get_or (overwritten (bytes_in M x) o bytes) i 0 ≡ with_piece M (list_piece (x.at + o) bytes) (x.at + i)
    byte i below = by_side i below (is_among o (length bytes) i) refl (is_among 0 o i) refl

-- ---- several extents

one_has : (b : ℕ) (xs : List Extent) (i : ℕ) (x : Extent) → slice_get xs i ≡ Some x → has b x ≡ true → 1 ≤ count_by (has b) xs
one_has b [] i x found inside = absurd (none-some x found)
one_has b (y ∷ xs) zero x found inside =
    let same : y ≡ x = cc in rw (held_first b y xs, same, inside) (omega arith)
one_has b (y ∷ xs) (suc i) x found inside =
    let rest : 1 ≤ count_by (has b) xs = one_has b xs i x found inside in rw (held_first b y xs) (omega (arith, rest))

two_have : (b : ℕ) (xs : List Extent) (i j : ℕ) (x y : Extent) → i < j → slice_get xs i ≡ Some x → slice_get xs j ≡ Some y
    → has b x ≡ true → has b y ≡ true → 2 ≤ count_by (has b) xs
two_have b [] i j x y before found_x found_y in_x in_y = absurd (none-some x found_x)
two_have b (z ∷ xs) i zero x y before found_x found_y in_x in_y = absurd (omega (arith, before))
two_have b (z ∷ xs) zero (suc j) x y before found_x found_y in_x in_y =
    let same : z ≡ x = cc in
    let rest : 1 ≤ count_by (has b) xs = one_has b xs j y found_y in_y in
    rw (held_first b z xs, same, in_x) (omega (arith, rest))
two_have b (z ∷ xs) (suc i) (suc j) x y before found_x found_y in_x in_y =
    let rest : 2 ≤ count_by (has b) xs = two_have b xs i j x y (omega (arith, before)) found_x found_y in_x in_y in
    rw (held_first b z xs) (omega (arith, rest))

-- an address of one extent is none of another
pub in_one : (b : ℕ) (xs : List Extent) (i j : ℕ) (x y : Extent) → StandApart xs → i ≢ j → slice_get xs i ≡ Some x → slice_get xs j ≡ Some y
    → has b x ≡ true → has b y ≡ false
in_one b xs i j x y apart differ found_x found_y in_x = by_cases (has b y) refl
  where
    in_order : i < j ⊎ j < i
    in_order = grind (arith, differ)

    twice : has b y ≡ true → i < j ⊎ j < i → 2 ≤ count_by (has b) xs
    twice in_y (inl before) = two_have b xs i j x y before found_x found_y in_x in_y
    twice in_y (inr after) = two_have b xs j i y x after found_y found_x in_y in_x

    by_cases : (t : Bool) → has b y ≡ t → has b y ≡ false
    by_cases false outside = outside
    by_cases true in_y = absurd (omega (arith, apart b, twice in_y in_order))

-- storage that is the same in every extent is held the same
pub same_held : (M N : Storage) (xs : List Extent) → ((i : ℕ) (x : Extent) → slice_get xs i ≡ Some x → bytes_in M x ≡ bytes_in N x)
    → map (bytes_in M) xs ≡ map (bytes_in N) xs
same_held M N [] same = refl
same_held M N (x ∷ xs) same = rw (same 0 x refl, same_held M N xs (λ i y found. same (suc i) y found)) refl

set_held : (M N : Storage) (xs : List Extent) (i : ℕ) (x : Extent) → slice_get xs i ≡ Some x
    → ((j : ℕ) (y : Extent) → j ≢ i → slice_get xs j ≡ Some y → bytes_in M y ≡ bytes_in N y)
    → slice_set (map (bytes_in M) xs) i (bytes_in N x) ≡ map (bytes_in N) xs
set_held M N [] i x found same = absurd (none-some x found)
set_held M N (z ∷ xs) zero x found same =
    let is : z ≡ x = cc in
    rw (is, same_held M N xs (λ j y there. same (suc j) y (λ e. absurd (omega (arith, e))) there)) refl
set_held M N (z ∷ xs) (suc i) x found same =
    rw (same 0 z (λ e. absurd (omega (arith, e))) refl, set_held M N xs i x found (λ j y differ there. same (suc j) y (λ e. differ (omega (arith, e))) there)) refl

-- bytes written into one of the extents are a piece of storage
pub with_held : (M : Storage) (xs : List Extent) (i o : ℕ) (x : Extent) (bytes : List ℕ) → StandApart xs → slice_get xs i ≡ Some x → o + length bytes ≤ x.count
    → with_bytes (map (bytes_in M) xs) i o bytes ≡ map (bytes_in (with_piece M (list_piece (x.at + o) bytes))) xs
with_held M xs i o x bytes apart found fits =
    ap (λ ys. slice_set (map (bytes_in M) xs) i (overwritten ys o bytes)) (section_held M xs i x found)
    ∙ (ap (slice_set (map (bytes_in M) xs) i) (written_held M x o bytes fits)
    ∙ set_held M (with_piece M (list_piece (x.at + o) bytes)) xs i x found others)
  where
    within : (b : ℕ) → is_among (x.at + o) (length bytes) b ≡ true → has b x ≡ true
    within b inside = grind (arith, inside, fits)

    outside : (b : ℕ) (y : Extent) → has b y ≡ true → (has b x ≡ true → has b y ≡ false) → (t : Bool) → is_among (x.at + o) (length bytes) b ≡ t
        → is_among (x.at + o) (length bytes) b ≡ false
    outside b y in_y only false is = is
    outside b y in_y only true is = let gone : has b y ≡ false = only (within b is) in absurd cc

    others : (j : ℕ) (y : Extent) → j ≢ i → slice_get xs j ≡ Some y → bytes_in M y ≡ bytes_in (with_piece M (list_piece (x.at + o) bytes)) y
    others j y differ there =
        same_map M (with_piece M (list_piece (x.at + o) bytes)) y.at y.count
        (λ b low high. let in_y : has b y ≡ true = grind (arith, low, high) in
        sym (outside_piece M (x.at + o) b bytes
        (outside b y in_y (λ in_x. in_one b xs i j x y apart (λ e. differ (sym e)) found there in_x) (is_among (x.at + o) (length bytes) b) refl)))
