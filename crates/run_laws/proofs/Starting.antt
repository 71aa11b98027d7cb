-- A written member of a program over a grown tree starts.
use Rattle.std.proofs.Common.{◌≡◌, inl, inr, ℕ, zero, suc, ◌+◌, ◌-◌, ◌<◌, ◌≤◌, Bool, true, false, not, ◌&&◌, ◌||◌, ◌==◌, nat_lt, if◌then◌else◌, List, [], ◌∷◌, ◌++◌, map, find, length, Option, Some, None, option_map, slice_index, refl, sym, ap, ◌∙◌, subst, arith}
use Rattle.std.specs.Prelude.{is_none}
use Rattle.std.specs.Option.{option_map_or}
use Rattle.std.specs.List.{list_any, range_with_len}
use Rattle.std.proofs.lemmas.Bool.{eq-eqb, ne_eqb, ltb-true}
use Rattle.std.proofs.lemmas.Bool.Decides.{eqb_tells}
use Rattle.le_bytes.specs.declared.record_what.StartWhat.{StartWhat}
use Rattle.le_bytes.specs.declared.record_what.StartWhat.TheVariants.{BadSegtab, BadNoteList}
use Rattle.run_laws.proofs.NotesRight.{note_is_right}
use Rattle.linking_model.specs.declared.segment.Segment.{Segment}
use Rattle.linking_model.specs.Numbers.{greatest, is_among}
use Rattle.linking_model.specs.Tree.{Tree, IsTree, parent_of, regions}
use Rattle.linking_model.specs.TableBytes.{status_of, segtab_bytes}
use Rattle.linking_model.specs.Places.{Laid, is_overlay, segtab_length, entry_count}
use Rattle.linking_model.specs.Linked.{Placement}
use Rattle.linking_model.specs.Run.{Storage, Piece, byte_in, has_address, pieces, segtab_piece, section_piece, entab_piece, sections_in}
use Rattle.linking_model.proofs.Trees.{parent_of-older, region_of-root}
use Rattle.member_model.specs.Symbols.{is_overlay_member}
use Rattle.member_model.specs.Fetched.{Fetched, first_storage}
use Rattle.member_model.specs.Segments.{count, segments_of, segtab, segtab_item, segment_byte, parent_in, region_in}
use Rattle.member_model.specs.Starting.{later_segments, is_wrong_place, is_wrong_order, first_status, is_wrong_segtab, is_wrong_note, start_fault}
use Rattle.member_model.specs.Written.{written_bytes}
use Rattle.member_laws.specs.Linkable.{IsLinkable, IsFormat}
use Rattle.member_laws.proofs.LoadingItems.{among_true}
use Rattle.member_laws.proofs.LoadingBlock.{size_of_segtab}
use Rattle.run_laws.specs.Grown.{IsGrown}
use Rattle.run_laws.specs.EntryTables.{ReadsTable}
use Rattle.run_laws.proofs.FetchedMembers.{IsFetched, count_is}
use Rattle.run_laws.proofs.SegmentTables.{item_is, table_at, byte_is, parent_is, region_is, table_count, table_regions}
use Rattle.run_laws.proofs.TreesStart.{none_of_range, Says, highest_region, places_are_right, orders_are_right}

-- ---- the segment table at the start

among_start : (at n k : ℕ) → k < n → is_among at n (at + k) ≡ true
among_start at n k low = among_true at n (at + k) (omega arith) (omega arith)

back : (at k : ℕ) → at + k - at ≡ k
back at k = omega arith

first_piece : (P : Laid) (Q : Placement) (k : ℕ) → is_overlay P.tree ≡ true → k < segtab_length P.tree
    → byte_in (pieces P Q 1) (Q.segtab + k) ≡ slice_index (segtab_bytes P.tree (1 ∷ [])) k
first_piece P Q k over low =
    ap (λ b. byte_in ((if b && 1 == 1 then segtab_piece P Q ∷ [] else []) ++ map (section_piece P Q) (sections_in P.program 1) ++ last) (Q.segtab + k)) over
    ∙ ap (λ b. option_map_or (λ (piece : Piece). piece.byte (Q.segtab + k - piece.at)) (if b then Some (segtab_piece P Q) else find (has_address (Q.segtab + k)) rest) 0)
    (among_start Q.segtab (length (segtab_bytes P.tree (1 ∷ []))) k (subst (λ n. k < n) (sym (size_of_segtab P.tree (1 ∷ []))) low))
    ∙ ap (slice_index (segtab_bytes P.tree (1 ∷ []))) (back Q.segtab k)
  where
    last : List Piece
    last = if entry_count P 1 == 0 then [] else entab_piece P Q 1 ∷ []

    rest : List Piece
    rest = map (section_piece P Q) (sections_in P.program 1) ++ last

pub first_reads : (P : Laid) (scatter : Bool) (n : ℕ) (Q : Placement) (m : Fetched) → IsFetched P scatter n Q m → is_overlay P.tree ≡ true
    → ReadsTable P Q.segtab (1 ∷ []) (first_storage m)
first_reads P scatter n Q m is over = record { bytes = λ k low. is.storage (Q.segtab + k) ∙ first_piece P Q k over low }

-- ---- what the table says

root_parent : (tree : Tree) → IsTree tree → parent_of tree 1 ≡ 0
unfolding parent_of
root_parent [] t = absurd t
root_parent (x ∷ []) t = ap (λ (z : Segment). z.parent) t
root_parent (x ∷ y ∷ older) t = parent_of-older x (y ∷ older) 1 (λ is. omega (arith, is)) ∙ root_parent (y ∷ older) t.1

pub tree_said : (P : Laid) (scatter : Bool) (n : ℕ) (Q : Placement) (m : Fetched) (resident : List ℕ) (M : Storage) → IsLinkable P
    → IsFetched P scatter n Q m → is_overlay P.tree ≡ true → ReadsTable P Q.segtab resident M → Says P.tree (parent_in m M) (region_in m M)
tree_said P scatter n Q m resident M link is over reads = record {
  parents = λ s low high. parent_is P scatter n Q m resident M s link is over reads low high;
  regions = λ s low high. region_is P scatter n Q m resident M s link is over reads low high;
}

none_of_nine : (a b c d e f g h i : Bool) → a ≡ false → b ≡ true → c ≡ true → d ≡ false → e ≡ true → f ≡ true → g ≡ false → h ≡ false → i ≡ false
    → (a || not b || not c || d || not e || not f || g || h || i) ≡ false
none_of_nine a b c d e f g h i p q r s t u v w x = rw (p, q, r, s, t, u, v, w, x) refl

status_first : (s : ℕ) → (status_of (1 ∷ []) s == first_status s) ≡ true
status_first s =
    elim (eqb_tells s 1) as (λ _. (status_of (1 ∷ []) s == first_status s) ≡ true) [
      | inl w ↦ rw (w.1) refl
      | inr w ↦ rw (w.0, ne_eqb 1 s (λ same. w.1 (sym same))) refl
    ]

not_true : (b : Bool) → b ≡ true → not b ≡ false
not_true b is = ap not is

four : (r : ℕ) → r ≤ 4 → nat_lt 4 r ≡ false
four r low = grind arith

table_is_right : (P : Laid) (scatter : Bool) (n : ℕ) (Q : Placement) (m : Fetched) (M : Storage) → IsLinkable P → IsGrown P.tree
    → IsFetched P scatter n Q m → is_overlay P.tree ≡ true → ReadsTable P Q.segtab (1 ∷ []) M → is_wrong_segtab m M ≡ false
table_is_right P scatter n Q m M link grown is over reads =
    let says : Says P.tree (parent_in m M) (region_in m M) = tree_said P scatter n Q m (1 ∷ []) M link is over reads in
    let counted : count m ≡ length P.tree = count_is P scatter n Q m link is in
    let at : segtab m ≡ Q.segtab = table_at P scatter n Q m link is over in
    let more : 1 < length P.tree = ltb-true 1 (length P.tree) over in
    let number : M (segtab m) ≡ length P.tree =
    ap M (at ∙ plain Q.segtab) ∙ reads.bytes 0 (omega arith) ∙ table_count P.tree (1 ∷ []) in
    let highest : M (segtab m + 1) ≡ regions P.tree =
    ap (λ a. M (a + 1)) at ∙ reads.bytes 1 (omega arith) ∙ table_regions P.tree (1 ∷ []) in
    none_of_nine (is_none (segtab_item m)) (M (segtab m) == count m) (M (segtab m + 1) == greatest (map (region_in m M) (segments_of m)))
    (nat_lt 4 (M (segtab m + 1))) (parent_in m M 1 == 0) (region_in m M 1 == 1)
    (list_any (is_wrong_place (parent_in m M) (region_in m M)) (later_segments (count m)))
    (list_any (is_wrong_order (parent_in m M) (region_in m M)) (later_segments (count m)))
    (list_any (λ s. not (segment_byte m M 2 s == first_status s)) (segments_of m))
    (ap is_none (item_is P scatter n Q m link is over))
    (eq-eqb (M (segtab m)) (count m) (number ∙ sym counted))
    (eq-eqb (M (segtab m + 1)) (greatest (map (region_in m M) (segments_of m)))
    (highest ∙ sym (ap (λ k. greatest (map (region_in m M) (range_with_len 1 k))) counted ∙ highest_region P.tree (parent_in m M) (region_in m M) says)))
    (four (M (segtab m + 1)) (subst (λ r. r ≤ 4) (sym highest) link.small.few_regions))
    (eq-eqb (parent_in m M 1) 0 (says.parents 1 (omega arith) (omega arith) ∙ root_parent P.tree link.tree))
    (eq-eqb (region_in m M 1) 1 (says.regions 1 (omega arith) (omega arith) ∙ region_of-root P.tree link.tree))
    (none_of_range _ 2 (count m - 1) (λ s low high. places_are_right P.tree (parent_in m M) (region_in m M) s link.tree says low (omega (arith, high, counted, more))))
    (none_of_range _ 2 (count m - 1) (λ s low high. orders_are_right P.tree (parent_in m M) (region_in m M) s grown says low (omega (arith, high, counted, more))))
    (none_of_range _ 1 (count m) (λ s low high.
    not_true (segment_byte m M 2 s == first_status s)
    (ap (λ v. v == first_status s) (byte_is P scatter n Q m (1 ∷ []) M 2 s link is over reads low (omega (arith, high, counted)) (omega arith)) ∙ status_first s)))
  where
    plain : (a : ℕ) → a ≡ a + 0
    plain a = omega arith

-- ---- the law

range_find : (test : ℕ → Bool) (a n : ℕ) → ((k : ℕ) → a ≤ k → k < a + n → test k ≡ false) → find test (range_with_len a n) ≡ None
range_find test a zero fails = refl
range_find test a (suc n) fails =
    rw (fails a (omega arith) (omega arith)) (range_find test (a + 1) n (λ k low high. fails k (omega (arith, low)) (omega (arith, high))))

no_fault : (overlay wrong : Bool) (o : Option StartWhat) → overlay ≡ true → wrong ≡ false → o ≡ None
    → (if not overlay then None else (if wrong then Some BadSegtab else o)) ≡ None
no_fault overlay wrong o is right none = rw (is, right, none) refl

starts_over : (P : Laid) (scatter : Bool) (n : ℕ) (Q : Placement) (m : Fetched) → IsLinkable P → IsFormat P scatter n → IsGrown P.tree
    → IsFetched P scatter n Q m → is_overlay P.tree ≡ true → length (written_bytes P scatter n) ≤ 16777214 → start_fault m ≡ None
unfolding start_fault
starts_over P scatter n Q m link format grown is over few =
    let reads : ReadsTable P Q.segtab (1 ∷ []) (first_storage m) = first_reads P scatter n Q m is over in
    let says : Says P.tree (parent_in m (first_storage m)) (region_in m (first_storage m)) = tree_said P scatter n Q m (1 ∷ []) (first_storage m) link is over reads in
    no_fault (is_overlay_member m.entry) (is_wrong_segtab m (first_storage m)) _ (is.overlay ∙ over)
    (table_is_right P scatter n Q m (first_storage m) link grown is over reads)
    (ap (λ o. option_map (λ s. BadNoteList s) o)
    (range_find (is_wrong_note m (first_storage m)) 1 (count m) (λ s low high.
    note_is_right P scatter n Q m (first_storage m) s link format is over few says (root_parent P.tree link.tree) low
    (omega (arith, high, count_is P scatter n Q m link is)))))

pub plain_starts : (m : Fetched) → is_overlay_member m.entry ≡ false → start_fault m ≡ None
unfolding start_fault
plain_starts m plain = rw plain refl

pub starts : (P : Laid) (scatter : Bool) (n : ℕ) (Q : Placement) (m : Fetched) → IsLinkable P → IsFormat P scatter n → IsGrown P.tree
    → IsFetched P scatter n Q m → length (written_bytes P scatter n) ≤ 16777214 → start_fault m ≡ None
starts P scatter n Q m link format grown is few = by_overlay (is_overlay P.tree) refl
  where
    by_overlay : (overlay : Bool) → is_overlay P.tree ≡ overlay → start_fault m ≡ None
    by_overlay true over = starts_over P scatter n Q m link format grown is over few
    by_overlay false plain = plain_starts m (is.overlay ∙ plain)
