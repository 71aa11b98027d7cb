-- The records of a written member hold what the program has.
use Rattle.std.proofs.Common.{◌≡◌, ℕ, zero, suc, ◌+◌, ◌-◌, ◌/◌, ◌<◌, ◌≤◌, Bool, true, false, ◌==◌, if◌then◌else◌, List, [], ◌∷◌, ◌++◌, map, fold, length, take, drop, Some, None, slice_get, refl, sym, ap, subst, ◌∙◌, add-zero, zero-add, arith}
use Rattle.std.proofs.lemmas.Bool.{cond-true}
use Rattle.std.proofs.lemmas.List.{append_assoc, append-nil, length-append, length-map, map-append, drop-map, drop_at}
use Rattle.std.proofs.lemmas.List.Concat.{flat_map-append, length-flat_map}
use Rattle.std.proofs.lemmas.List.FromFn.{length-map-range_with_len, length-enumerate_from, take-map-range_with_len}
use Rattle.std.proofs.lemmas.List.Folds.{fold-map}
use Rattle.std.proofs.lemmas.List.Sums.{fold-append, sum_by-cons}
use Rattle.std.specs.List.{flat_map, range_with_len, enumerate_from, sum_by}
use Rattle.load_recs.specs.ItemBytes.{note_bytes}
use Rattle.load_recs.specs.Records.{Record, NoteRecord, rec_bytes}
use Rattle.linking_model.specs.Tree.{IsTree, Tree, segments}
use Rattle.linking_model.specs.Places.{Laid, is_overlay}
use Rattle.member_model.specs.Cuts.{cuts, together}
use Rattle.member_model.specs.Facts.{Facts, no_facts, facts, seen, walked}
use Rattle.member_model.specs.SymbolList.{first_records, head_records}
use Rattle.member_model.specs.Written.{note_item, note_items, note_record_count, note_records, segment_records, written, written_bytes}
use Rattle.member_laws.specs.Linkable.{IsLinkable, IsFormat}
use Rattle.member_laws.specs.Gathered.{with_segment, segment_lists, notes_written, head_facts, facts_written, records_before}
use Rattle.member_laws.specs.Laws.{Gathers, WrittenRecordsGather}
use Rattle.member_laws.proofs.HeadsWritten.{head_part, heads_are, notes-count}
use Rattle.member_laws.proofs.Numbered.{segments-range}
use Rattle.member_laws.proofs.PartPieces.{flat_map-of-map, segment_walks}
use Rattle.member_laws.proofs.Reading.{saw, fold-seen, Walks, walks-stop}
use Rattle.member_laws.proofs.Standing.{segments-length}

-- ---- the records in parts

-- the records of k segments from segment i on
abbrev pub records_of : Laid → ℕ → ℕ → ℕ → List Record
records_of P n i k = flat_map (segment_records P n) (range_with_len i k)

pub written-is : (P : Laid) (scatter : Bool) (n : ℕ) → written P scatter n ≡ head_part P scatter n ++ records_of P n 1 (length P.tree)
unfolding written
written-is P scatter n =
    ap (λ l. head_part P scatter n ++ l) (flat_map-of-map (λ x. x) (segment_records P n) (segments P.tree) ∙ ap (flat_map (segment_records P n)) (segments-range P.tree))

pub range-split : (a m k : ℕ) → range_with_len a (m + k) ≡ range_with_len a m ++ range_with_len (a + m) k
range-split a zero k = ap (range_with_len a) (zero-add k) ∙ ap (λ b. range_with_len b k) (sym (add-zero a))
range-split a (suc m) k =
    ap (range_with_len a) (moved m k) ∙ ap (λ l. a ∷ l) (range-split (a + 1) m k ∙ ap (λ b. range_with_len (a + 1) m ++ range_with_len b k) (shifted a m))
  where
    moved : (m k : ℕ) → suc m + k ≡ suc (m + k)
    moved m k = omega arith

    shifted : (a m : ℕ) → a + 1 + m ≡ a + suc m
    shifted a m = omega arith

pub records-split : (P : Laid) (n i m k : ℕ) → records_of P n i (m + k) ≡ records_of P n i m ++ records_of P n (i + m) k
records-split P n i m k = ap (flat_map (segment_records P n)) (range-split i m k) ∙ flat_map-append (segment_records P n) (range_with_len i m) (range_with_len (i + m) k)

-- ---- facts after segments

pub next-segment : (P : Laid) (n s : ℕ) (F : Facts) → (with_segment P n s F).segment ≡ s + 1
unfolding with_segment
next-segment P n s F = refl

pub nothing-due : (P : Laid) (n s : ℕ) (F : Facts) → (with_segment P n s F).due ≡ None
unfolding with_segment
nothing-due P n s F = refl

pub head-segment : (P : Laid) (scatter : Bool) (n : ℕ) → (head_facts P scatter n).segment ≡ 1
unfolding head_facts
head-segment P scatter n = refl

pub head-due : (P : Laid) (scatter : Bool) (n : ℕ) → (head_facts P scatter n).due ≡ None
unfolding head_facts
head-due P scatter n = refl

segments-run : (P : Laid) (n i k : ℕ) (F : Facts) → IsLinkable P → 1 ≤ n → n ≤ 13030 → 1 ≤ i → i + k ≤ length P.tree + 1 → F.segment ≡ i → F.due ≡ None
    → fold saw F (records_of P n i k) ≡ fold (λ G t. with_segment P n t G) F (range_with_len i k)
segments-run P n i zero F links some most low within here none = refl
segments-run P n i (suc k) F links some most low within here none =
    fold-append saw F (segment_records P n i) (records_of P n (i + 1) k)
    ∙ ap (λ G. fold saw G (records_of P n (i + 1) k)) (segment_walks P n i F links some most low (omega arith) here none).whole
    ∙ segments-run P n (i + 1) k (with_segment P n i F) links some most (omega arith) (omega arith) (next-segment P n i F) (nothing-due P n i F)

whole : (P : Laid) (scatter : Bool) (n : ℕ) → IsLinkable P → IsFormat P scatter n → facts (written_bytes P scatter n) ≡ facts_written P scatter n (length P.tree)
unfolding facts facts_written
whole P scatter n links format =
    fold-seen no_facts (written P scatter n)
    ∙ ap (fold saw no_facts) (written-is P scatter n)
    ∙ fold-append saw no_facts (head_part P scatter n) (records_of P n 1 (length P.tree))
    ∙ ap (λ G. fold saw G (records_of P n 1 (length P.tree))) (heads_are P scatter n links format.scatter_alone).whole
    ∙ segments-run P n 1 (length P.tree) (head_facts P scatter n) links format.some format.most (omega arith) (omega arith) (head-segment P scatter n) (head-due P scatter n)

-- ---- one segment

-- what is read of segment s, where its records come first
segment-first : (P : Laid) (n s : ℕ) (F : Facts) (rest : List Record) → IsLinkable P → 1 ≤ n → n ≤ 13030 → 1 ≤ s → s ≤ length P.tree → F.segment ≡ s → F.due ≡ None
    → walked s F (map rec_bytes (segment_records P n s ++ rest)) ≡ with_segment P n s F
segment-first P n s F rest links some most low high here none =
    ap (walked s F) (map-append rec_bytes (segment_records P n s) rest)
    ∙ (segment_walks P n s F links some most low high here none).part (map rec_bytes rest)
    ∙ walks-stop s (with_segment P n s F) (map rec_bytes rest) (λ e. other s (sym e ∙ next-segment P n s F))
  where
    other : (s : ℕ) → s ≡ s + 1 → ⊥
    other s e = omega arith

pub tree-some : (tree : Tree) → IsTree tree → 1 ≤ length tree
tree-some [] is = absurd is
tree-some (x ∷ older) is = omega arith

root : (P : Laid) (scatter : Bool) (n : ℕ) → IsLinkable P → IsFormat P scatter n → walked 1 no_facts (written_bytes P scatter n) ≡ facts_written P scatter n 1
unfolding facts_written
root P scatter n links format =
    let some : 1 ≤ length P.tree = tree-some P.tree links.tree in
    let count : length P.tree ≡ 1 + (length P.tree - 1) = omega arith in
    let lists : written P scatter n ≡ head_part P scatter n ++ (segment_records P n 1 ++ records_of P n 2 (length P.tree - 1)) =
    written-is P scatter n ∙ ap (λ k. head_part P scatter n ++ records_of P n 1 k) count
    ∙ ap (λ l. head_part P scatter n ++ l) (records-split P n 1 1 (length P.tree - 1) ∙ ap (λ l. l ++ records_of P n 2 (length P.tree - 1)) (append-nil (segment_records P n 1))) in
    ap (λ l. walked 1 no_facts (map rec_bytes l)) lists
    ∙ ap (walked 1 no_facts) (map-append rec_bytes (head_part P scatter n) (segment_records P n 1 ++ records_of P n 2 (length P.tree - 1)))
    ∙ (heads_are P scatter n links format.scatter_alone).part (map rec_bytes (segment_records P n 1 ++ records_of P n 2 (length P.tree - 1)))
    ∙ segment-first P n 1 (head_facts P scatter n) (records_of P n 2 (length P.tree - 1)) links format.some format.most (omega arith) some (head-segment P scatter n) (head-due P scatter n)

-- ---- where the records of a segment stand

notes-length : (P : Laid) (before : ℕ) (lists : List (List Record)) → length lists ≡ length P.tree → length (note_records P before lists) ≡ note_record_count P
notes-length P before lists count =
    let items = map note_bytes (note_items P (before + note_record_count P + 1) 1 lists) in
    length-map (enumerate_from 0 (cuts 20 items)) _
    ∙ length-enumerate_from 0 (cuts 20 items)
    ∙ length-map-range_with_len _ 0 ((length items + 19) / 20)
    ∙ ap (λ k. (k + 19) / 20) (length-map (note_items P (before + note_record_count P + 1) 1 lists) note_bytes ∙ notes-count P (before + note_record_count P + 1) 1 lists ∙ count)

pub lists-count : (P : Laid) (n : ℕ) → length (segment_lists P n) ≡ length P.tree
lists-count P n = length-map (segments P.tree) (segment_records P n) ∙ segments-length P.tree

head-length : (P : Laid) (scatter : Bool) (n : ℕ) → length (head_part P scatter n) ≡ length (first_records P scatter) + (if is_overlay P.tree then note_record_count P else 0)
head-length P scatter n =
    length-append (first_records P scatter) _ ∙ ap (λ k. length (first_records P scatter) + k) (by_overlay (is_overlay P.tree))
  where
    by_overlay : (b : Bool) → length (if b then note_records P (length (first_records P scatter)) (segment_lists P n) else []) ≡ (if b then note_record_count P else 0)
    by_overlay true = notes-length P (length (first_records P scatter)) (segment_lists P n) (lists-count P n)
    by_overlay false = refl

before-length : (P : Laid) (scatter : Bool) (n s : ℕ) → length (head_part P scatter n ++ records_of P n 1 (s - 1)) ≡ records_before P scatter n s
unfolding records_before
before-length P scatter n s =
    length-append (head_part P scatter n) (records_of P n 1 (s - 1))
    ∙ ap (λ k. k + length (records_of P n 1 (s - 1))) (head-length P scatter n)
    ∙ ap (λ k. length (first_records P scatter) + (if is_overlay P.tree then note_record_count P else 0) + k) (length-flat_map (segment_records P n) (range_with_len 1 (s - 1)))

pub segment-there : (P : Laid) (scatter : Bool) (n s : ℕ) → 1 ≤ s → s ≤ length P.tree
    → drop (records_before P scatter n s) (written_bytes P scatter n) ≡ map rec_bytes (segment_records P n s ++ records_of P n (s + 1) (length P.tree - s))
segment-there P scatter n s low high =
    let count : length P.tree ≡ s - 1 + suc (length P.tree - s) = omega arith in
    let number : 1 + (s - 1) ≡ s = omega arith in
    let before = head_part P scatter n ++ records_of P n 1 (s - 1) in
    let rest = segment_records P n s ++ records_of P n (s + 1) (length P.tree - s) in
    let lists : written P scatter n ≡ before ++ rest =
    written-is P scatter n ∙ ap (λ k. head_part P scatter n ++ records_of P n 1 k) count
    ∙ ap (λ l. head_part P scatter n ++ l) (records-split P n 1 (s - 1) (suc (length P.tree - s)) ∙ ap (λ i. records_of P n 1 (s - 1) ++ records_of P n i (suc (length P.tree - s))) number)
    ∙ sym (append_assoc (head_part P scatter n) (records_of P n 1 (s - 1)) rest) in
    drop-map rec_bytes (records_before P scatter n s) (written P scatter n)
    ∙ ap (λ l. map rec_bytes (drop (records_before P scatter n s) l)) lists
    ∙ ap (map rec_bytes) (drop_at before rest (records_before P scatter n s) (before-length P scatter n s))

note-at : (P : Laid) (number a k : ℕ) (lists : List (List Record)) → k < length lists
    → slice_get (note_items P number a lists) k ≡ Some (note_item P (number + sum_by length (take k lists)) (a + k))
note-at P number a k [] low = absurd (omega arith)
note-at P number a zero (x ∷ lists) low = ap (λ m. Some (note_item P m a)) (sym (add-zero number)) ∙ ap (λ b. Some (note_item P (number + 0) b)) (sym (add-zero a))
note-at P number a (suc k) (x ∷ lists) low =
    note-at P (number + length x) (a + 1) k lists (omega arith)
    ∙ ap (λ m. Some (note_item P m (a + 1 + k))) (summed number (length x) _ _ (sum_by-cons length x (take k lists)))
    ∙ ap (λ b. Some (note_item P (number + sum_by length (take (suc k) (x ∷ lists))) b)) (shifted a k)
  where
    summed : (n l t s : ℕ) → s ≡ l + t → n + l + t ≡ n + s
    summed n l t s e = omega arith

    shifted : (a k : ℕ) → a + 1 + k ≡ a + suc k
    shifted a k = omega arith

noted : (P : Laid) (scatter : Bool) (n s : ℕ) → is_overlay P.tree ≡ true → 1 ≤ s → s ≤ length P.tree
    → slice_get (notes_written P scatter n) (s - 1) ≡ Some (note_item P (records_before P scatter n s + 1) s)
unfolding records_before
noted P scatter n s overlay low high =
    let before = length (first_records P scatter) in
    let number = before + note_record_count P + 1 in
    let lists = segment_lists P n in
    let lengths : ℕ = sum_by (λ t. length (segment_records P n t)) (range_with_len 1 (s - 1)) in
    let count : length lists ≡ length P.tree = lists-count P n in
    let sums : sum_by length (take (s - 1) lists) ≡ lengths =
    ap (λ l. sum_by length (take (s - 1) (map (segment_records P n) l))) (segments-range P.tree)
    ∙ ap (sum_by length) (take-map-range_with_len (segment_records P n) 1 (length P.tree) (s - 1) (omega arith))
    ∙ fold-map (λ a x. a + length x) (segment_records P n) 0 (range_with_len 1 (s - 1)) in
    let start : before + (if is_overlay P.tree then note_record_count P else 0) ≡ before + note_record_count P = ap (λ b. before + (if b then note_record_count P else 0)) overlay in
    ap (λ b. slice_get (if b then note_items P number 1 lists else []) (s - 1)) overlay
    ∙ note-at P number 1 (s - 1) lists (omega arith)
    ∙ ap (λ m. Some (note_item P m (1 + (s - 1)))) (moved before (note_record_count P) _ lengths _ sums start)
    ∙ ap (λ t. Some (note_item P (before + (if is_overlay P.tree then note_record_count P else 0) + lengths + 1) t)) (let e : 1 + (s - 1) ≡ s = omega arith in e)
  where
    moved : (before count sum lengths start : ℕ) → sum ≡ lengths → start ≡ before + count → before + count + 1 + sum ≡ start + lengths + 1
    moved before count sum lengths start e f = omega arith

-- ---- the law

pub written_records_gather : WrittenRecordsGather
written_records_gather P scatter n links format =
    record {
      root = root P scatter n links format;
      whole = whole P scatter n links format;
      segment = λ s F low high here none.
          ap (walked s F) (segment-there P scatter n s low high)
          ∙ segment-first P n s F (records_of P n (s + 1) (length P.tree - s)) links format.some format.most low high here none;
      noted = λ s overlay low high. noted P scatter n s overlay low high;
    }
