-- A dump: one line, and one line more.
use Rattle.std.proofs.Common.{◌≡◌, ℕ, ◌+◌, ◌-◌, ◌*◌, ◌<◌, ◌≤◌, min, List, [], ◌∷◌, ◌++◌, length, get_or, take, drop, slice_set, refl, ap, sym, ◌∙◌, arith, add-one, append_assoc, take_at, drop_at, drop-drop, drop-cons}
use Rattle.std.proofs.lemmas.List.{append-nil, take_min}
use Rattle.std.proofs.Common.{length-drop, length-append, ◌/◌, ◌%◌}
use Rattle.std.proofs.Math.Nat.{min_comm}
use Rattle.std.proofs.Math.Seq.{set-append_seam}
use borrow.Rule.Slice.PartMut.{put_mid, post_of}
use Rattle.map_list.specs.Dumps.{dump_line, dump_lines}

-- one line more
pub lines_more : (address : ℕ) (bytes : List ℕ) (n : ℕ)
    → dump_lines address bytes (n + 1) ≡ dump_lines address bytes n ++ dump_line (address + 16 * n) (take 16 (drop (16 * n) bytes))
lines_more address bytes n = rw add-one refl

take_least : (xs : List ℕ) (n m : ℕ) → m ≡ min (length xs) n → take m xs ≡ take n xs
take_least xs n m e = ap (λ (k : ℕ). take k xs) (e ∙ min_comm (length xs) n) ∙ take_min n xs

-- the bytes of a line, as a part that ends with its range or 16 bytes on
pub piece : (bytes : List ℕ) (at end : ℕ) → at ≤ length bytes → end ≡ min (length bytes) (at + 16)
    → take (end - at) (drop at bytes) ≡ take 16 (drop at bytes)
piece bytes at end h e = take_least (drop at bytes) 16 (end - at) (rw (length-drop at bytes) (omega arith))

-- one line more at the end of a dump
pub dump_more : (old now then : List ℕ) (address : ℕ) (bytes : List ℕ) (n end : ℕ)
    → now ≡ old ++ dump_lines address bytes n → 16 * n ≤ length bytes → end ≡ min (length bytes) (16 * n + 16)
    → then ≡ now ++ dump_line (address + 16 * n) (take (end - 16 * n) (drop (16 * n) bytes))
    → then ≡ old ++ dump_lines address bytes (n + 1)
dump_more old now then address bytes n end p h e q =
    q ∙ rw (p, piece bytes (16 * n) end h e, lines_more address bytes n) (append_assoc old (dump_lines address bytes n) (dump_line (address + 16 * n) (take 16 (drop (16 * n) bytes))))

-- a line begins within its range
pub begins_within : (size n : ℕ) → n < size / 16 + min 1 (size % 16) → 16 * n ≤ size
begins_within size n h = omega arith

abbrev filled : List ℕ → List ℕ → List ℕ → ℕ → List ℕ
filled digits pairs out n = slice_set (put_mid 7 (7 + n - 7) (slice_set (digits ++ post_of 0 6 out) 6 32) pairs) (7 + n) 10

abbrev whole : List ℕ → List ℕ → List ℕ
whole digits pairs = (digits ++ 32 ∷ (pairs ++ [])) ++ 10 ∷ []

set_at_end : (xs : List ℕ) (y : ℕ) (ys : List ℕ) (v n : ℕ) → length xs ≡ n → slice_set (xs ++ y ∷ ys) n v ≡ xs ++ v ∷ ys
set_at_end xs y ys v n e = ap (λ (k : ℕ). slice_set (xs ++ y ∷ ys) k v) (sym e) ∙ set-append_seam xs y ys v

put_after : (front rest pairs : List ℕ) (n m : ℕ) → length front ≡ 7 → m ≡ n
    → put_mid 7 m (front ++ rest) pairs ≡ front ++ (pairs ++ drop n rest)
put_after front rest pairs n m f e = rw (e, take_at front rest 7 f, drop_at front rest 7 f) refl

joined : (digits pairs rest : List ℕ) → ((digits ++ 32 ∷ []) ++ pairs) ++ 10 ∷ rest ≡ whole digits pairs ++ rest
joined digits pairs rest = simp (append_assoc, append-nil)

length-front : (digits : List ℕ) → length digits ≡ 6 → length (digits ++ 32 ∷ []) ≡ 7
length-front digits d = simp length-append (omega arith)

-- a line that is put together in its place
filled_whole : (digits pairs out : List ℕ) (n : ℕ) → length digits ≡ 6 → length pairs ≡ n → 8 + n ≤ length out
    → filled digits pairs out n ≡ whole digits pairs ++ drop (7 + n + 1) out
filled_whole digits pairs out n d p h =
    let front : List ℕ = digits ++ 32 ∷ [] in
    let one : slice_set (digits ++ drop 6 out) 6 32 ≡ front ++ drop 7 out
    = ap (λ (z : List ℕ). slice_set (digits ++ z) 6 32) (drop-cons out 6 0 (omega arith))
    ∙ set_at_end digits (get_or out 6 0) (drop 7 out) 32 6 d
    ∙ sym (append_assoc digits (32 ∷ []) (drop 7 out)) in
    let two : put_mid 7 (7 + n - 7) (front ++ drop 7 out) pairs ≡ front ++ (pairs ++ drop (7 + n) out)
    = put_after front (drop 7 out) pairs n (7 + n - 7) (length-front digits d) (omega arith)
    ∙ ap (λ (z : List ℕ). front ++ (pairs ++ z)) (drop-drop n 7 out) in
    let last : drop (7 + n) out ≡ get_or out (7 + n) 0 ∷ drop (7 + n + 1) out
    = drop-cons out (7 + n) 0 (omega arith) ∙ ap (λ (k : ℕ). get_or out (7 + n) 0 ∷ drop k out) (sym (add-one (7 + n))) in
    let three : slice_set (front ++ (pairs ++ drop (7 + n) out)) (7 + n) 10 ≡ (front ++ pairs) ++ 10 ∷ drop (7 + n + 1) out
    = ap (λ (z : List ℕ). slice_set z (7 + n) 10) (ap (λ (z : List ℕ). front ++ (pairs ++ z)) last ∙ sym (append_assoc front pairs (get_or out (7 + n) 0 ∷ drop (7 + n + 1) out)))
    ∙ set_at_end (front ++ pairs) (get_or out (7 + n) 0) (drop (7 + n + 1) out) 10 (7 + n) (length-append front pairs ∙ rw (length-front digits d, p) refl) in
    ap (λ (z : List ℕ). slice_set (put_mid 7 (7 + n - 7) z pairs) (7 + n) 10) one
    ∙ ap (λ (z : List ℕ). slice_set z (7 + n) 10) two ∙ three ∙ joined digits pairs (drop (7 + n + 1) out)

length-whole : (digits pairs : List ℕ) (n : ℕ) → length digits ≡ 6 → length pairs ≡ n → length (whole digits pairs) ≡ 7 + n + 1
length-whole digits pairs n d p = simp (length-append, append-nil) (omega arith)

-- the line, where its parts are as they should be
pub filled_text : (digits pairs out a e : List ℕ) (n : ℕ) → digits ≡ a → pairs ≡ e → length digits ≡ 6 → length e ≡ n → 8 + n ≤ length out
    → take (7 + n + 1) (filled digits pairs out n) ≡ whole a e
filled_text digits pairs out a e n da pe d p h =
    let l : length pairs ≡ n = ap (λ (z : List ℕ). length z) pe ∙ p in
    ap (λ (z : List ℕ). take (7 + n + 1) z) (filled_whole digits pairs out n d l h)
    ∙ take_at (whole digits pairs) (drop (7 + n + 1) out) (7 + n + 1) (length-whole digits pairs n d l)
    ∙ cc

-- what stands after it
pub filled_rest : (digits pairs out e : List ℕ) (n : ℕ) → pairs ≡ e → length digits ≡ 6 → length e ≡ n → 8 + n ≤ length out
    → drop (7 + n + 1) (filled digits pairs out n) ≡ drop (7 + n + 1) out
filled_rest digits pairs out e n pe d p h =
    let l : length pairs ≡ n = ap (λ (z : List ℕ). length z) pe ∙ p in
    ap (λ (z : List ℕ). drop (7 + n + 1) z) (filled_whole digits pairs out n d l h)
    ∙ drop_at (whole digits pairs) (drop (7 + n + 1) out) (7 + n + 1) (length-whole digits pairs n d l)
