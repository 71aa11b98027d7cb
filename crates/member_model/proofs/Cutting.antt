-- Cuts of lists.
use Rattle.std.proofs.Common.{◌≡◌, ℕ, zero, suc, ◌+◌, ◌-◌, ◌*◌, ◌/◌, ◌%◌, ◌<◌, ◌≤◌, refl, sym, Bool, true, false, nat_lt, if◌then◌else◌, List, [], ◌∷◌, ◌++◌, map, length, take, drop, arith, ap}
use Rattle.std.proofs.lemmas.List.{append_assoc, append-nil}
use Rattle.std.proofs.lemmas.List.Concat.{flat_map-cons}
use Rattle.load_recs.specs.declared.items.RldItem.{RldItem}
use Rattle.std.proofs.Math.Nat.{mod-add-div, mod-lt}
use Rattle.std.proofs.Math.Seq.{take-add, take_all}
use Rattle.std.proofs.lemmas.List.{drop-drop}
use Rattle.std.specs.List.{range_with_len}
use Rattle.member_model.specs.Cuts.{together, cut_at}
use Rattle.member_model.specs.Chunks.{chunks_after, room_after}
use Rattle.member_model.specs.Laws.{ChunksHoldAllItems, PiecesHoldAllText}

-- ---- chunks of relocation items

-- whether a chunk ends before y or goes on with it
holds-step : (b : Bool) (before : List RldItem) (x y : RldItem) (ys : List RldItem) (cut longer : List (List RldItem)) → together cut ≡ y ∷ ys → together longer ≡ (before ++ x ∷ []) ++ y ∷ ys → together (if b then (before ++ x ∷ []) ∷ cut else longer) ≡ before ++ x ∷ y ∷ ys
holds-step true before x y ys cut longer ends goes_on =
    rw (flat_map-cons (λ l. l) (before ++ x ∷ []) cut, ends, append_assoc before (x ∷ []) (y ∷ ys)) refl
holds-step false before x y ys cut longer ends goes_on = rw (goes_on, append_assoc before (x ∷ []) (y ∷ ys)) refl

chunks_after-holds : (before : List RldItem) (x : RldItem) (n : ℕ) (xs : List RldItem) → together (chunks_after before x n xs) ≡ before ++ x ∷ xs
unfolding chunks_after
chunks_after-holds before x n [] = rw (flat_map-cons (λ l. l) (before ++ x ∷ []) [], append-nil (before ++ x ∷ [])) refl
chunks_after-holds before x n (y ∷ ys) =
    holds-step (nat_lt 240 (n + room_after x y)) before x y ys
    (chunks_after [] y 8 ys) (chunks_after (before ++ x ∷ []) y (n + room_after x y) ys)
    (chunks_after-holds [] y 8 ys) (chunks_after-holds (before ++ x ∷ []) y (n + room_after x y) ys)

pub chunks_hold_all_items : ChunksHoldAllItems
chunks_hold_all_items [] = refl
chunks_hold_all_items (x ∷ xs) = chunks_after-holds [] x 8 xs

-- ---- parts of equal length

one_more : (n k : ℕ) → n * (k + 1) ≡ n * k + n
one_more n k = grind arith

no_more : (n : ℕ) → n * 0 ≡ 0
no_more n = grind arith

-- k parts from part i on are n * k items
cuts-run : (n : ℕ) (xs : List ℕ) (i k : ℕ) → together (map (cut_at n xs) (range_with_len i k)) ≡ take (n * k) (drop (n * i) xs)
cuts-run n xs i zero = rw (no_more n) refl
cuts-run n xs i (suc k) =
    rw (flat_map-cons (λ l. l) (cut_at n xs i) (map (cut_at n xs) (range_with_len (i + 1) k)), cuts-run n xs (i + 1) k, one_more n i, sym (drop-drop n (n * i) xs), sym (take-add n (n * k) (drop (n * i) xs)))
    (ap (λ m. take m (drop (n * i) xs)) (added n k))
  where
    added : (n k : ℕ) → n + n * k ≡ n * suc k
    added n k = grind arith

reached : (r p n l : ℕ) → r + p ≡ l + (n - 1) → r < n → l ≤ p
reached r p n l sum below = omega arith

-- as many parts as there are hold all
cuts-reach : (n l : ℕ) → 1 ≤ n → l ≤ n * ((l + (n - 1)) / n)
cuts-reach n l some =
    reached ((l + (n - 1)) % n) (n * ((l + (n - 1)) / n)) n l (mod-add-div (l + (n - 1)) n) (mod-lt (l + (n - 1)) some)

pub pieces_hold_all_text : PiecesHoldAllText
pieces_hold_all_text n bytes some =
    rw (cuts-run n bytes 0 ((length bytes + (n - 1)) / n), no_more n) (take_all (n * ((length bytes + (n - 1)) / n)) bytes (cuts-reach n (length bytes) some))
