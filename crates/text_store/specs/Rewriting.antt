-- What a loan of a text that is kept whole leaves.
use Rattle.std.proofs.Common.{arith, ◌≡◌, ℕ, zero, suc, ◌+◌, ◌-◌, ◌<◌, ◌≤◌, Bool, true, false, ◌&&◌, if◌then◌else◌, List, [], ◌∷◌, ◌++◌, length, take, drop, get_or, refl, sym, ◌∙◌, ap, subst, add_assoc, slice_set, slice_range}
use Rattle.std.specs.Prelude.{nat_le}
use Rattle.std.specs.Vec.{with_items_from}
use Rattle.std.specs.Global.{Vec}
use Rattle.std.proofs.lemmas.Grind.{common_steps}
use Rattle.std.proofs.lemmas.Bool.Decides.{nat_tests}
use Rattle.std.proofs.lemmas.List.{drop-take, take-take, drop-drop, drop-append-le}
use Rattle.std.proofs.Math.Seq.{take-append-add}
use Rattle.text_store.specs.Content.{section_of, overwritten, with_bytes, LieInContent}
use Rattle.text_store.specs.Overwriting.{field_before, field_after, length_overwritten}
use Rattle.text_store.specs.Whole.{are_rising, pieces, content_of, whole_with}
use Rattle.text_store.specs.declared.whole.WholeText.{WholeText}

-- a list that was lent whole and written in its middle
refilled : (xs bytes : List ℕ) (at n : ℕ) → n ≡ length xs → at + length bytes ≤ length xs
    → take n ((take at xs ++ (bytes ++ drop (length bytes) (drop at xs))) ++ drop (length (take at xs ++ (bytes ++ drop (length bytes) (drop at xs)))) xs)
    ≡ overwritten xs at bytes
refilled xs bytes at n size fits = grind (arith, common_steps)

-- the bytes after a write of as many as were lent
pub lent : (v : Vec ℕ) (at : ℕ) (bytes : List ℕ) → at + length bytes ≤ length v.items
    → (with_items_from v at bytes).items ≡ overwritten v.items at bytes
lent v at bytes fits = refilled v.items bytes at v.len v.ok.0 fits

-- ---- starts that rise

rises_first : (s : ℕ) (ss : List ℕ) (end : ℕ) → are_rising (s ∷ ss) end ≡ true → s ≤ get_or ss 0 end
rises_first s ss end rising = grind (arith, nat_tests, rising)

rises_rest : (s : ℕ) (ss : List ℕ) (end : ℕ) → are_rising (s ∷ ss) end ≡ true → are_rising ss end ≡ true
rises_rest s ss end rising = by_cases (nat_le s (get_or ss 0 end)) rising
  where
    by_cases : (b : Bool) → (b && are_rising ss end) ≡ true → are_rising ss end ≡ true
    by_cases true is = is
    by_cases false is = absurd (cc)

-- the first is at most the end
first_below : (ss : List ℕ) (end : ℕ) → are_rising ss end ≡ true → get_or ss 0 end ≤ end
first_below [] end rising = omega arith
first_below (s ∷ ss) end rising =
    let more : get_or ss 0 end ≤ end = first_below ss end (rises_rest s ss end rising) in
    omega (arith, rises_first s ss end rising, more)

-- each is at least the first
first_least : (ss : List ℕ) (end i : ℕ) → are_rising ss end ≡ true → i < length ss → get_or ss 0 end ≤ get_or ss i 0
first_least [] end i rising there = absurd (omega arith)
first_least (s ∷ ss) end zero rising there = omega arith
first_least (s ∷ ss) end (suc i) rising there =
    let more : get_or ss 0 end ≤ get_or ss i 0 = first_least ss end i (rises_rest s ss end rising) (omega (arith, there)) in
    omega (arith, rises_first s ss end rising, more)

-- piece i begins where it ends or before, and ends at the end or before
ordered : (ss : List ℕ) (end i : ℕ) → are_rising ss end ≡ true → i < length ss
    → (get_or ss i 0 ≤ get_or ss (suc i) end) × (get_or ss (suc i) end ≤ end)
ordered [] end i rising there = absurd (omega arith)
ordered (s ∷ ss) end zero rising there = (rises_first s ss end rising, first_below ss end (rises_rest s ss end rising))
ordered (s ∷ ss) end (suc i) rising there = ordered ss end i (rises_rest s ss end rising) (omega (arith, there))

length_pieces : (xs ss : List ℕ) (end : ℕ) → length (pieces xs ss end) ≡ length ss
length_pieces xs [] end = refl
length_pieces xs (s ∷ ss) end = ap (λ n. suc n) (length_pieces xs ss end)

piece_is : (xs ss : List ℕ) (end i : ℕ) → i < length ss → get_or (pieces xs ss end) i [] ≡ slice_range xs (get_or ss i 0) (get_or ss (suc i) end)
piece_is xs [] end i there = absurd (omega arith)
piece_is xs (s ∷ ss) end zero there = refl
piece_is xs (s ∷ ss) end (suc i) there = piece_is xs ss end i (omega (arith, there))

-- ---- a write into one piece

module _ (xs bytes : List ℕ) (p : ℕ) (fits : p + length bytes ≤ length xs) where
  -- pieces that begin after the write
  pieces_after : (ss : List ℕ) (end : ℕ) → are_rising ss end ≡ true → p + length bytes ≤ get_or ss 0 end
      → pieces (overwritten xs p bytes) ss end ≡ pieces xs ss end
  pieces_after [] end rising after = refl
  pieces_after (s ∷ ss) end rising after =
      let here : slice_range (overwritten xs p bytes) s (get_or ss 0 end) ≡ slice_range xs s (get_or ss 0 end) = field_after xs bytes p s (get_or ss 0 end - s) fits after in
      let more = pieces_after ss end (rises_rest s ss end rising) (omega (arith, after, rises_first s ss end rising)) in
      ap (λ v. v ∷ pieces (overwritten xs p bytes) ss end) here ∙ ap (λ vs. slice_range xs s (get_or ss 0 end) ∷ vs) more

-- the piece that is written
tail_kept : (p bytes r : List ℕ) (at n : ℕ) → length p ≡ at → at + length bytes ≤ n
    → take n (p ++ (bytes ++ r)) ≡ p ++ (bytes ++ take (n - (at + length bytes)) r)
tail_kept p bytes r at n size fits =
    let left : ℕ = n - (at + length bytes) in
    let all : n ≡ length p + (length bytes + left) = omega (arith, size, fits) in
    ap (λ m. take m (p ++ (bytes ++ r))) all
    ∙ (take-append-add p (bytes ++ r) (length bytes + left) ∙ ap (λ v. p ++ v) (take-append-add bytes r left))

inside : (ys bytes : List ℕ) (at n : ℕ) → at + length bytes ≤ n → n ≤ length ys → take n (overwritten ys at bytes) ≡ overwritten (take n ys) at bytes
inside ys bytes at n fits within =
    let m : ℕ = at + length bytes in
    let back : m + (n - m) ≡ n = omega (arith, fits) in
    let rest : drop m (take n ys) ≡ take (n - m) (drop m ys) = ap (λ k. drop m (take k ys)) (sym back) ∙ drop-take m (n - m) ys in
    let first : take at (take n ys) ≡ take at ys = take-take at n ys (omega (arith, fits)) in
    tail_kept (take at ys) bytes (drop m ys) at n (grind (arith, common_steps)) fits
    ∙ (ap (λ v. take at ys ++ (bytes ++ v)) (sym rest) ∙ ap (λ v. v ++ (bytes ++ drop m (take n ys))) (sym first))

dropped : (xs bytes : List ℕ) (s at : ℕ) → s + at + length bytes ≤ length xs → drop s (overwritten xs (s + at) bytes) ≡ overwritten (drop s xs) at bytes
dropped xs bytes s at fits =
    let size : s ≤ length (take (s + at) xs) = grind (arith, common_steps) in
    let back : drop (s + at + length bytes) xs ≡ drop (at + length bytes) (drop s xs) =
    ap (λ m. drop m xs) (add_assoc s at (length bytes)) ∙ sym (drop-drop (at + length bytes) s xs) in
    drop-append-le s (take (s + at) xs) (bytes ++ drop (s + at + length bytes) xs) size
    ∙ (ap (λ v. v ++ (bytes ++ drop (s + at + length bytes) xs)) (drop-take s at xs) ∙ ap (λ v. take at (drop s xs) ++ (bytes ++ v)) back)

written_piece : (xs bytes : List ℕ) (s t at : ℕ) → at + length bytes ≤ t - s → s ≤ t → t ≤ length xs
    → slice_range (overwritten xs (s + at) bytes) s t ≡ overwritten (slice_range xs s t) at bytes
written_piece xs bytes s t at fits order within =
    let size : t - s ≤ length (drop s xs) = grind (arith, common_steps) in
    ap (take (t - s)) (dropped xs bytes s at (omega (arith, fits))) ∙ inside (drop s xs) bytes at (t - s) fits size

pub written : (xs bytes ss : List ℕ) (end i at : ℕ) → are_rising ss end ≡ true → i < length ss → end ≤ length xs
    → get_or ss i 0 + at + length bytes ≤ get_or ss (suc i) end
    → pieces (overwritten xs (get_or ss i 0 + at) bytes) ss end ≡ slice_set (pieces xs ss end) i (overwritten (get_or (pieces xs ss end) i []) at bytes)
written xs bytes [] end i at rising there within fits = absurd (omega arith)
written xs bytes (s ∷ ss) end zero at rising there within fits =
    let rest : are_rising ss end ≡ true = rises_rest s ss end rising in
    let below : get_or ss 0 end ≤ end = first_below ss end rest in
    ap (λ v. v ∷ pieces (overwritten xs (s + at) bytes) ss end)
    (written_piece xs bytes s (get_or ss 0 end) at (omega (arith, fits)) (rises_first s ss end rising) (omega (arith, below, within)))
    ∙ ap (λ vs. overwritten (slice_range xs s (get_or ss 0 end)) at bytes ∷ vs) (pieces_after xs bytes (s + at) (omega (arith, fits, below, within)) ss end rest fits)
written xs bytes (s ∷ ss) end (suc i) at rising there within fits =
    let rest : are_rising ss end ≡ true = rises_rest s ss end rising in
    let later : i < length ss = omega (arith, there) in
    let least : get_or ss 0 end ≤ get_or ss i 0 = first_least ss end i rest later in
    let last : get_or ss (suc i) end ≤ end = (ordered ss end i rest later).1 in
    let first : s ≤ get_or ss 0 end = rises_first s ss end rising in
    ap (λ v. v ∷ pieces (overwritten xs (get_or ss i 0 + at) bytes) ss end)
    (field_before xs bytes (get_or ss i 0 + at) s (get_or ss 0 end - s) (omega (arith, fits, last, within)) (omega (arith, first, least)))
    ∙ ap (λ vs. slice_range xs s (get_or ss 0 end) ∷ vs) (written xs bytes ss end i at rest later within fits)

-- ---- the text

-- what lies in a content lies in one piece of bytes whose starts rise
pub record LiesInPiece (text : WholeText) (i at n : ℕ) : Type 0 where
  pub rising : are_rising text.starts.items (length text.bytes.items) ≡ true
  pub content : content_of text ≡ pieces text.bytes.items text.starts.items (length text.bytes.items)
  pub there : i < length text.starts.items
  pub piece : section_of (content_of text) i ≡ slice_range text.bytes.items (get_or text.starts.items i 0) (get_or text.starts.items (suc i) (length text.bytes.items))
  pub fits : get_or text.starts.items i 0 + at + n ≤ get_or text.starts.items (suc i) (length text.bytes.items)
  pub within : get_or text.starts.items i 0 + at + n ≤ length text.bytes.items

-- a content that has a section is that of starts that rise
content_rises : (b : Bool) (content : List (List ℕ)) (i at n : ℕ) → LieInContent (if b then content else []) i at n → b ≡ true
content_rises false content i at n lies = absurd (none i lies.there)
  where
    none : (i : ℕ) → i < 0 → ⊥
    none i below = omega (arith, below)
content_rises true content i at n lies = refl

room : (xs : List ℕ) (s t at n : ℕ) → s ≤ t → t ≤ length xs → at + n ≤ length (slice_range xs s t) → s + at + n ≤ t
room xs s t at n order within fits = grind (arith, common_steps)

pub lies_in_piece : (text : WholeText) (i at n : ℕ) → LieInContent (content_of text) i at n → LiesInPiece text i at n
unfolding content_of
lies_in_piece text i at n lies =
    let xs : List ℕ = text.bytes.items in
    let ss : List ℕ = text.starts.items in
    let rising : are_rising ss (length xs) ≡ true = content_rises (are_rising ss (length xs)) (pieces xs ss (length xs)) i at n lies in
    let content : content_of text ≡ pieces xs ss (length xs) = ap (λ b. if b then pieces xs ss (length xs) else []) rising in
    let here : LieInContent (pieces xs ss (length xs)) i at n = subst (λ v. LieInContent v i at n) content lies in
    let there : i < length ss = subst (λ m. i < m) (length_pieces xs ss (length xs)) here.there in
    let piece : section_of (pieces xs ss (length xs)) i ≡ slice_range xs (get_or ss i 0) (get_or ss (suc i) (length xs)) = piece_is xs ss (length xs) i there in
    let order = ordered ss (length xs) i rising there in
    let fits : get_or ss i 0 + at + n ≤ get_or ss (suc i) (length xs) =
    room xs (get_or ss i 0) (get_or ss (suc i) (length xs)) at n order.0 order.1 (subst (λ ys. at + n ≤ length ys) piece here.inside) in
    record {
      rising = rising;
      content = content;
      there = there;
      piece = ap (λ v. section_of v i) content ∙ piece;
      fits = fits;
      within = omega (arith, fits, order.1);
    }

-- what a write leaves of the whole text
pub whole_rewrites : (text : WholeText) (i at : ℕ) (bytes : List ℕ) → LieInContent (content_of text) i at (length bytes)
    → content_of (whole_with text i at bytes) ≡ with_bytes (content_of text) i at bytes
unfolding content_of
whole_rewrites text i at bytes lies =
    let xs : List ℕ = text.bytes.items in
    let ss : List ℕ = text.starts.items in
    let p : ℕ = get_or ss i 0 + at in
    let piece : LiesInPiece text i at (length bytes) = lies_in_piece text i at (length bytes) lies in
    let new : (with_items_from text.bytes p bytes).items ≡ overwritten xs p bytes = lent text.bytes p bytes piece.within in
    let size : length (overwritten xs p bytes) ≡ length xs = length_overwritten xs bytes p piece.within in
    ap (λ ys. if are_rising ss (length ys) then pieces ys ss (length ys) else []) new
    ∙ (ap (λ m. if are_rising ss m then pieces (overwritten xs p bytes) ss m else []) size
    ∙ (ap (λ b. if b then pieces (overwritten xs p bytes) ss (length xs) else []) piece.rising
    ∙ (written xs bytes ss (length xs) i at piece.rising piece.there (omega arith) piece.fits
    ∙ ap (λ v. with_bytes v i at bytes) (sym piece.content))))

-- what is read of a section
pub read_there : (text : WholeText) (i at n : ℕ) → LieInContent (content_of text) i at n
    → slice_range text.bytes.items (get_or text.starts.items i 0 + at) (get_or text.starts.items i 0 + at + n) ≡ take n (drop at (section_of (content_of text) i))
read_there text i at n lies =
    let piece : LiesInPiece text i at n = lies_in_piece text i at n lies in
    ranged text.bytes.items (get_or text.starts.items i 0) (get_or text.starts.items (suc i) (length text.bytes.items)) at n piece.fits
    ∙ ap (λ ys. take n (drop at ys)) (sym piece.piece)
  where
    ranged : (xs : List ℕ) (s t at n : ℕ) → s + at + n ≤ t → slice_range xs (s + at) (s + at + n) ≡ take n (drop at (slice_range xs s t))
    ranged xs s t at n fits =
        let size : s + at + n - (s + at) ≡ n = omega arith in
        let long : at + (t - s - at) ≡ t - s = omega (arith, fits) in
        ap (λ m. take m (drop (s + at) xs)) size
        ∙ (sym (take-take n (t - s - at) (drop (s + at) xs) (omega (arith, fits)))
        ∙ ap (take n) (ap (take (t - s - at)) (sym (drop-drop at s xs)) ∙ (sym (drop-take at (t - s - at) (drop s xs)) ∙ ap (λ m. drop at (take m (drop s xs))) long)))

-- what is lent of a section: bytes of it from a place on
pub lent_part : (text : WholeText) (i at n : ℕ) (part : List ℕ) → LieInContent (content_of text) i at n
    → part ≡ slice_range text.bytes.items (get_or text.starts.items i 0 + at) (get_or text.starts.items i 0 + at + n)
    → (length part ≡ n) × (part ≡ take (length part) (drop at (section_of (content_of text) i)))
lent_part text i at n part lies same =
    let piece : LiesInPiece text i at n = lies_in_piece text i at n lies in
    let value : part ≡ take n (drop at (section_of (content_of text) i)) = same ∙ read_there text i at n lies in
    let size : length part ≡ n =
    ap length same ∙ long text.bytes.items (get_or text.starts.items i 0 + at) n piece.within in
    (size, value ∙ ap (λ m. take m (drop at (section_of (content_of text) i))) (sym size))
  where
    long : (xs : List ℕ) (from n : ℕ) → from + n ≤ length xs → length (slice_range xs from (from + n)) ≡ n
    long xs from n fits = grind (arith, common_steps)
