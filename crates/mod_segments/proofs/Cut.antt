-- Items that are taken piece by piece are those that end in the pieces.
use Rattle.std.proofs.Common.{◌≡◌, ℕ, zero, suc, ◌+◌, ◌-◌, ◌*◌, ◌/◌, ◌^◌, ◌≤◌, ◌<◌, min, Bool, true, false, ◌&&◌, nat_lt, nat_le, if◌then◌else◌, List, [], ◌∷◌, ◌++◌, length, map, take, drop, filter, All, refl, sym, ap, subst, ◌∙◌, one-add, append_assoc, length-take, length-drop, arith}
use Rattle.std.specs.List.{range_with_len, enumerate_from, prefix_len}
use Rattle.std.specs.List.Sorted.{IsNonDecreasingBy}
use Rattle.std.proofs.Math.Nat.{mul-le-mul_left, mul-div-le}
use Rattle.std.proofs.lemmas.List.{take_min}
use Rattle.std.proofs.lemmas.Bool.Decides.{nat_tests}
use Rattle.std.proofs.lemmas.List.Elements.{All-cons, All-head, All-tail, filter_agree}
use Rattle.std.proofs.lemmas.List.Kept.{IsNonDecreasingBy-filter}
use Rattle.std.proofs.lemmas.List.FromFn.{map-range_with_len_more}
use Rattle.load_recs.specs.declared.items.RldItem.{RldItem}
use Rattle.member_model.specs.Cuts.{cut_at}
use Rattle.member_model.specs.Chunks.{chunks, chunk_bytes}
use Rattle.member_model.specs.Pieces.{Piece, ends_among, piece_of, pieces}
use Rattle.mod_segments.specs.Chunks.{IsChunk}
use Rattle.mod_segments.specs.Pieces.{IsPiece, IsPieceLength, last_byte}

-- ---- a list in the order of a number of each item

module _ {X : Type 0} (n : X → ℕ) where
  rest_in_order : (x : X) (xs : List X) → IsNonDecreasingBy n (x ∷ xs) → IsNonDecreasingBy n xs
  rest_in_order x xs h i j d le lt = h (suc i) (suc j) d (omega arith) (omega arith)

  first_least : (x : X) (xs : List X) → IsNonDecreasingBy n (x ∷ xs) → All (λ y. n x ≤ n y) xs
  first_least x xs h k d lt = h 0 (suc k) d (omega arith) (omega arith)

  none_below : (e : ℕ) (xs : List X) → All (λ y. e ≤ n y) xs → filter (λ y. nat_lt (n y) e) xs ≡ []
  none_below e [] h = refl
  none_below e (x ∷ xs) h =
      let here : e ≤ n x = All-head (λ y. e ≤ n y) x xs h in
      let no_more : nat_lt (n x) e ≡ false = grind (arith, nat_tests) in
      rw no_more (none_below e xs (All-tail (λ y. e ≤ n y) x xs h))

  all_from : (e : ℕ) (xs : List X) → All (λ y. e ≤ n y) xs → filter (λ y. nat_le e (n y)) xs ≡ xs
  all_from e [] h = refl
  all_from e (x ∷ xs) h =
      let here : e ≤ n x = All-head (λ y. e ≤ n y) x xs h in
      let kept : nat_le e (n x) ≡ true = grind (arith, nat_tests) in
      rw kept (ap (λ (v : List X). x ∷ v) (all_from e xs (All-tail (λ y. e ≤ n y) x xs h)))

  front_kept : (e : ℕ) (xs : List X) → IsNonDecreasingBy n xs
      → take (prefix_len (λ y. nat_lt (n y) e) xs) xs ≡ filter (λ y. nat_lt (n y) e) xs
  front_kept e [] h = refl
  front_kept e (x ∷ xs) h = by_first (nat_lt (n x) e) refl (front_kept e xs (rest_in_order x xs h))
    where
      by_first : (low : Bool) → nat_lt (n x) e ≡ low
          → take (prefix_len (λ y. nat_lt (n y) e) xs) xs ≡ filter (λ y. nat_lt (n y) e) xs
          → take (prefix_len (λ y. nat_lt (n y) e) (x ∷ xs)) (x ∷ xs) ≡ filter (λ y. nat_lt (n y) e) (x ∷ xs)
      by_first true is more = rw (is, one-add) (ap (λ (v : List X). x ∷ v) more)
      by_first false is more =
          let above : e ≤ n x = grind (arith, nat_tests) in
          rw is (sym (none_below e xs (λ k d lt. let least = first_least x xs h k d lt in omega arith)))

  back_kept : (e : ℕ) (xs : List X) → IsNonDecreasingBy n xs
      → drop (prefix_len (λ y. nat_lt (n y) e) xs) xs ≡ filter (λ y. nat_le e (n y)) xs
  back_kept e [] h = refl
  back_kept e (x ∷ xs) h = by_first (nat_lt (n x) e) refl (back_kept e xs (rest_in_order x xs h))
    where
      by_first : (low : Bool) → nat_lt (n x) e ≡ low
          → drop (prefix_len (λ y. nat_lt (n y) e) xs) xs ≡ filter (λ y. nat_le e (n y)) xs
          → drop (prefix_len (λ y. nat_lt (n y) e) (x ∷ xs)) (x ∷ xs) ≡ filter (λ y. nat_le e (n y)) (x ∷ xs)
      by_first true is more =
          let low : nat_le e (n x) ≡ false = grind (arith, nat_tests) in
          rw (is, one-add, low) more
      by_first false is more =
          let above : e ≤ n x = grind (arith, nat_tests) in
          rw is (sym (all_from e (x ∷ xs) (All-cons (λ y. e ≤ n y) x xs above (λ k d lt. let least = first_least x xs h k d lt in omega arith))))

filter_twice : {X : Type 0} (p q : X → Bool) (xs : List X) → filter q (filter p xs) ≡ filter (λ x. p x && q x) xs
filter_twice p q [] = refl
filter_twice p q (x ∷ xs) = by_first (p x) refl (filter_twice p q xs)
  where
    by_first : (b : Bool) → p x ≡ b → filter q (filter p xs) ≡ filter (λ x. p x && q x) xs
        → filter q (filter p (x ∷ xs)) ≡ filter (λ x. p x && q x) (x ∷ xs)
    by_first true is more = rw is (ap (λ v. if q x then x ∷ v else v) more)
    by_first false is more = rw is more

-- ---- pieces by their number

abbrev pub piece_number : ℕ → ℕ → List RldItem → ℕ → List ℕ → ℕ → Piece
piece_number section address items n bytes k = piece_of section address items n (k, cut_at n bytes k)

with_numbers : {X : Type 0} {Y : Type 0} (f : ℕ → X) (g : ℕ × X → Y) (a c : ℕ)
    → map g (enumerate_from a (map f (range_with_len a c))) ≡ map (λ k. g (k, f k)) (range_with_len a c)
with_numbers f g a zero = refl
with_numbers f g a (suc c) = ap (λ v. g (a, f a) ∷ v) (with_numbers f g (a + 1) c)

pub by_number : (section address : ℕ) (items : List RldItem) (n : ℕ) (bytes : List ℕ)
    → pieces n section address items bytes ≡ map (piece_number section address items n bytes) (range_with_len 0 ((length bytes + (n - 1)) / n))
unfolding pieces
by_number section address items n bytes =
    with_numbers (cut_at n bytes) (piece_of section address items n) 0 ((length bytes + (n - 1)) / n)

-- the items that end at an address or after it
abbrev pub ending_from : ℕ → List RldItem → List RldItem
ending_from a items = filter (λ x. nat_le a (last_byte x)) items

-- where the first k pieces of n bytes end
abbrev pub end_of_pieces : ℕ → ℕ → ℕ → ℕ
end_of_pieces n k total = min (n * k) total

-- a piece begins within the text
pub within : (n k total : ℕ) → 1 ≤ n → k < (total + (n - 1)) / n → n * k < total
within n k total some below =
    let more : k + 1 ≤ (total + (n - 1)) / n = omega arith in
    let up : n * (k + 1) ≤ n * ((total + (n - 1)) / n) = mul-le-mul_left n more in
    omega (arith, up, mul-div-le (total + (n - 1)) n)

later_still : (a size b : ℕ) → (nat_le a b && nat_le (a + size) b) ≡ nat_le (a + size) b
later_still a size b = grind (arith, nat_tests)

-- piece k of a text, whose items are the first of those that are left
module _ (section address n k size : ℕ) (items rest : List RldItem) (bytes : List ℕ)
    (there : n * k < length bytes) (is : size ≡ min n (length bytes - n * k))
    (ordered : IsNonDecreasingBy last_byte items) (left : rest ≡ ending_from (address + n * k) items) where
  cut_length : length (take n (drop (n * k) bytes)) ≡ size
  cut_length = length-take n (drop (n * k) bytes) ∙ (ap (min n) (length-drop (n * k) bytes) ∙ sym is)

  bytes_here : take size (drop (n * k) bytes) ≡ take n (drop (n * k) bytes)
  bytes_here = ap (λ m. take m (drop (n * k) bytes)) (is ∙ ap (min n) (sym (length-drop (n * k) bytes))) ∙ take_min n (drop (n * k) bytes)

  rest_ordered : IsNonDecreasingBy last_byte rest
  rest_ordered = subst (IsNonDecreasingBy last_byte) (sym left) (IsNonDecreasingBy-filter last_byte (λ x. nat_le (address + n * k) (last_byte x)) items ordered)

  items_here : take (prefix_len (λ x. nat_lt (last_byte x) (address + n * k + size)) rest) rest
      ≡ filter (ends_among (address + n * k) size) items
  items_here =
      front_kept last_byte (address + n * k + size) rest rest_ordered
      ∙ (ap (filter (λ x. nat_lt (last_byte x) (address + n * k + size))) left
      ∙ filter_twice (λ x. nat_le (address + n * k) (last_byte x)) (λ x. nat_lt (last_byte x) (address + n * k + size)) items)

  end_here : address + n * k + size ≡ address + end_of_pieces n (k + 1) (length bytes)
  end_here = omega arith

  pub items_later : drop (prefix_len (λ x. nat_lt (last_byte x) (address + n * k + size)) rest) rest
      ≡ ending_from (address + end_of_pieces n (k + 1) (length bytes)) items
  items_later =
      back_kept last_byte (address + n * k + size) rest rest_ordered
      ∙ (ap (filter (λ x. nat_le (address + n * k + size) (last_byte x))) left
      ∙ (filter_twice (λ x. nat_le (address + n * k) (last_byte x)) (λ x. nat_le (address + n * k + size) (last_byte x)) items
      ∙ (filter_agree (λ x. nat_le (address + n * k) (last_byte x) && nat_le (address + n * k + size) (last_byte x)) (λ x. nat_le (address + n * k + size) (last_byte x)) (λ x. later_still (address + n * k) size (last_byte x)) items
      ∙ ap (λ e. ending_from e items) end_here)))

  pub piece_here : (here : List RldItem) → here ≡ take (prefix_len (λ x. nat_lt (last_byte x) (address + n * k + size)) rest) rest
      → record { section = section; address = address + n * k; bytes = take size (drop (n * k) bytes); chunks = map chunk_bytes (chunks here) }
      ≡ piece_number section address items n bytes k
  piece_here here taken = rw (taken, items_here, bytes_here, cut_length) refl

  pub piece_fits : section < 2 ^ 16 → address + length bytes ≤ 16777216 → IsPieceLength n
      → All IsChunk (piece_number section address items n bytes k).chunks → IsPiece (piece_number section address items n bytes k)
  piece_fits short near long chunks = record {
    text = record {
      address = omega arith;
      some = rw cut_length (omega arith);
      most = rw cut_length (omega arith);
      section = short;
    };
    chunks = chunks;
  }

pub one_more : {X : Type 0} (f : ℕ → X) (old now new : List X) (k : ℕ) (x : X) → now ≡ old ++ map f (range_with_len 0 k) → x ≡ f k
    → new ≡ now ++ x ∷ [] → new ≡ old ++ map f (range_with_len 0 (k + 1))
one_more f old now new k x e is pushed =
    pushed
    ∙ (ap (λ v. v ++ x ∷ []) e
    ∙ (append_assoc old (map f (range_with_len 0 k)) (x ∷ [])
    ∙ ap (λ v. old ++ v) (ap (λ y. map f (range_with_len 0 k) ++ y ∷ []) is ∙ sym (map-range_with_len_more f 0 k k (omega arith)))))

pub nothing_before : (address n total : ℕ) (items : List RldItem) → All (λ x. address ≤ last_byte x) items
    → items ≡ ending_from (address + end_of_pieces n 0 total) items
nothing_before address n total items inside =
    let here : address + end_of_pieces n 0 total ≡ address = omega arith in
    sym (ap (λ a. ending_from a items) here ∙ all_from last_byte address items inside)

pub left_here : (address n k total : ℕ) (items rest : List RldItem) → n * k < total
    → rest ≡ ending_from (address + end_of_pieces n k total) items → rest ≡ ending_from (address + n * k) items
left_here address n k total items rest there left =
    let here : address + end_of_pieces n k total ≡ address + n * k = omega arith in
    left ∙ ap (λ a. ending_from a items) here

pub all_pieces : (section address n k : ℕ) (items : List RldItem) (bytes : List ℕ) (old now : List Piece)
    → now ≡ old ++ map (piece_number section address items n bytes) (range_with_len 0 k) → k ≡ (length bytes + (n - 1)) / n
    → now ≡ old ++ pieces n section address items bytes
all_pieces section address n k items bytes old now e is =
    e ∙ ap (λ v. old ++ v) (ap (λ c. map (piece_number section address items n bytes) (range_with_len 0 c)) is ∙ sym (by_number section address items n bytes))
