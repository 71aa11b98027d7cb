-- The notes of a written member fit its records, the module, the tree and the sections.
use Rattle.std.proofs.Common.{◌≡◌, ◌≢◌, inl, inr, ℕ, zero, suc, ◌+◌, ◌<◌, ◌≤◌, Bool, true, false, ◌&&◌, ◌||◌, ◌==◌, nat_lt, if◌then◌else◌, List, [], ◌∷◌, map, filter, drop, sum_by, length, refl, sym, ap, ◌∙◌, subst, arith}
use Rattle.std.specs.List.{AllByRecursion as Each, list_any, range_with_len}
use Rattle.std.proofs.lemmas.Bool.{ne_eqb, ltb-true, eqb-true}
use Rattle.std.proofs.lemmas.Bool.Decides.{eqb_tells}
use Rattle.load_recs.specs.declared.items.NoteItem.{NoteItem}
use Rattle.load_recs.specs.declared.items.SymbolItem.{SymbolItem}
use Rattle.load_recs.specs.Kinds.{is_section_kind}
use Rattle.load_recs.specs.declared.items.SymbolKind.TheVariants.{Er, Wx}
use Rattle.linking_model.specs.Numbers.{round8, greatest}
use Rattle.linking_model.specs.Tree.{Tree, IsTree, parent_of, region_of, segments}
use Rattle.linking_model.specs.Places.{Laid, is_overlay, depth, region_start, origin_by, origin, size, end_of, place, table_place, place_after, head_room, room_in}
use Rattle.linking_model.specs.Laws.{LiesInSegment, end_below}
use Rattle.linking_model.specs.Linked.{Placement}
use Rattle.linking_model.specs.Run.{Storage}
use Rattle.linking_model.proofs.Trees.{region_of-root, IsRegion, segments_have_regions}
use Rattle.linking_model.proofs.Origins.{path-start, region_start-ends, parent_ends_before, lower_regions_end_before}
use Rattle.linking_model.proofs.Extents.{sections_lie_in_segments}
use Rattle.member_model.specs.Symbols.{is_section}
use Rattle.member_model.specs.SymbolList.{symbols_written, part_symbol, label_symbol, unresolved_symbol, register_symbol}
use Rattle.member_model.specs.Parts.{Part, SegmentTable, OneSection, EntryTable, parts, part_place, part_segment, part_length}
use Rattle.member_model.specs.Fetched.{Fetched}
use Rattle.member_model.specs.Segments.{count, segments_of, parent_in, region_in, note, note_end}
use Rattle.member_model.specs.Starting.{is_astray, comes_before, is_wrong_note}
use Rattle.member_model.specs.Written.{written_bytes}
use Rattle.member_laws.specs.Linkable.{IsLinkable, IsFormat}
use Rattle.member_laws.specs.Gathered.{records_before}
use Rattle.member_laws.proofs.LoadingLists.{each_append, each_map, each_always}
use Rattle.member_laws.proofs.LoadingSymbols.{symbols_are}
use Rattle.member_laws.proofs.Membership.{each-of}
use Rattle.member_laws.proofs.Numbered.{segments-range, IsPart, from-part}
use Rattle.member_laws.proofs.Standing.{IsPartOf, StandsWell, stands_well, segments-end}
use Rattle.run_laws.proofs.FetchedMembers.{IsFetched, count_is, note_is, first_is, first_within}
use Rattle.run_laws.proofs.TreesStart.{none_of_range, Says}

-- ---- the root stands first

pub filter_none : (test : ℕ → Bool) (xs : List ℕ) → Each (λ x. test x ≡ false) xs → filter test xs ≡ []
filter_none test [] fails = refl
filter_none test (x ∷ xs) fails = rw (fails.0) (filter_none test xs fails.1)

pub range_each : (Q : ℕ → Type 0) (a n : ℕ) → ((k : ℕ) → a ≤ k → k < a + n → Q k) → Each Q (range_with_len a n)
range_each Q a zero holds = tt
range_each Q a (suc n) holds = (holds a (omega arith) (omega arith), range_each Q (a + 1) n (λ k low high. holds k (omega (arith, low)) (omega (arith, high))))

below_one : (r : ℕ) → 1 ≤ r → nat_lt r 1 ≡ false
below_one r some = grind arith

none_below_one : (tree : Tree) (sizes : ℕ → ℕ) → IsTree tree → end_below tree sizes 1 ≡ 0
none_below_one tree sizes t =
    ap (λ ss. greatest (map (λ s. origin_by tree sizes s + sizes s) ss))
    (filter_none (λ s. nat_lt (region_of tree s) 1) (segments tree)
    (subst (Each (λ s. nat_lt (region_of tree s) 1 ≡ false)) (sym (segments-range tree))
    (range_each _ 1 (length tree) (λ s low high.
    let region : IsRegion tree (region_of tree s) = segments_have_regions tree s t low (omega (arith, high)) in
    below_one (region_of tree s) region.numbered))))

root_depth : (tree : Tree) (sizes : ℕ → ℕ) → IsTree tree → depth tree sizes 1 ≡ 0
unfolding depth
root_depth tree sizes t =
    ap (λ l. sum_by (λ a. round8 (sizes a)) (filter (λ a. region_of tree a == region_of tree 1) (drop 1 l))) (path-start tree t)

origin_sum : (tree : Tree) (sizes : ℕ → ℕ) (s : ℕ) → origin_by tree sizes s ≡ region_start tree sizes (region_of tree s) + depth tree sizes s
unfolding origin_by
origin_sum tree sizes s = refl

-- the root begins where the module begins
pub root_origin : (P : Laid) → IsTree P.tree → origin P 1 ≡ 0
root_origin P t =
    origin_sum P.tree (size P) 1
    ∙ ap (λ r. region_start P.tree (size P) r + depth P.tree (size P) 1) (region_of-root P.tree t)
    ∙ ap (λ a. a + depth P.tree (size P) 1) (region_start-ends P.tree (size P) 1 ∙ ap round8 (none_below_one P.tree (size P) t))
    ∙ ap (λ d. round8 0 + d) (root_depth P.tree (size P) t)

-- ---- the parts of a segment lie in its range

table_sum : (P : Laid) (s : ℕ) → table_place P s ≡ origin P s + head_room P.tree s + sum_by (room_in s) P.program.sections
unfolding table_place place_after
table_sum P s = refl

pub part_begins : (P : Laid) (s : ℕ) (x : Part) → IsTree P.tree → 1 ≤ s → IsPartOf P s x → origin P s ≤ part_place P x
part_begins P s SegmentTable t low is =
    let root : part_segment P SegmentTable ≡ s = (stands_well P s SegmentTable low is).segment in
    subst (λ o. o ≤ 0) (sym (ap (origin P) (sym root) ∙ root_origin P t)) (omega arith)
part_begins P s (OneSection i) t low is =
    let lies : LiesInSegment P i is.section = sections_lie_in_segments P i is.section is.there in
    subst (λ r. origin P r ≤ place P i) is.here lies.begins
part_begins P s (EntryTable u) t low is =
    subst (λ r. origin P s ≤ table_place P r) (sym is.0)
    (above (origin P s) (head_room P.tree s) (sum_by (room_in s) P.program.sections) (table_place P s) (table_sum P s))
  where
    above : (o h r p : ℕ) → p ≡ o + h + r → o ≤ p
    above o h r p is = omega arith

lt_no : (a b : ℕ) → b ≤ a → nat_lt a b ≡ false
lt_no a b le = grind arith

inside : (section here before after : Bool) → (here ≡ true → before ≡ false) → (here ≡ true → after ≡ false) → (section && here && (before || after)) ≡ false
inside false here before after low high = refl
inside true false before after low high = refl
inside true true before after low high = rw (low refl, high refl) refl

part_not_astray : (P : Laid) (x : NoteItem) (s : ℕ) (y : Part) → IsTree P.tree → x.origin ≡ origin P s → note_end x ≡ end_of P s → IsPart P y
    → is_astray x s (part_symbol P y) ≡ false
part_not_astray P x s y t from to part =
    let well : StandsWell P part.in_segment y = stands_well P part.in_segment y part.low part.is in
    let begins : origin P part.in_segment ≤ part_place P y = part_begins P part.in_segment y t part.low part.is in
    inside (is_section (part_symbol P y)) (part_segment P y == s) (nat_lt (part_place P y) x.origin) (nat_lt (note_end x) (part_place P y + part_length P y))
    (λ here.
    let same : part.in_segment ≡ s = sym well.segment ∙ eqb-true (part_segment P y) s here in
    lt_no (part_place P y) x.origin (subst (λ o. o ≤ part_place P y) (ap (origin P) same ∙ sym from) begins))
    (λ here.
    let same : part.in_segment ≡ s = sym well.segment ∙ eqb-true (part_segment P y) s here in
    lt_no (note_end x) (part_place P y + part_length P y) (subst (λ e. part_place P y + part_length P y ≤ e) (ap (end_of P) same ∙ sym to) well.ends))

outside : (section here beyond : Bool) → section ≡ false → (section && here && beyond) ≡ false
outside section here beyond none = rw none refl

no_section : (weak : Bool) → is_section_kind (if weak then Wx else Er) ≡ false
no_section true = refl
no_section false = refl

any_false : (test : SymbolItem → Bool) (xs : List SymbolItem) → Each (λ y. test y ≡ false) xs → list_any test xs ≡ false
any_false test [] all = refl
any_false test (x ∷ xs) all = rw (all.0) (any_false test xs all.1)

not_astray : (P : Laid) (x : NoteItem) (s : ℕ) → IsTree P.tree → x.origin ≡ origin P s → note_end x ≡ end_of P s → list_any (is_astray x s) (symbols_written P) ≡ false
not_astray P x s t from to =
    any_false (is_astray x s) (symbols_written P)
    (subst (Each Fits) (sym (symbols_are P))
    (each_append Fits (map (part_symbol P) (parts P)) _
    (each_map Fits (part_symbol P) (parts P) (each-of _ (parts P) (λ y there. part_not_astray P x s y t from to (from-part P y there))))
    (each_append Fits (map (label_symbol P) P.program.labels) _
    (each_map Fits (label_symbol P) P.program.labels (each_always _ P.program.labels (λ y. refl)))
    (each_append Fits (map unresolved_symbol P.program.unresolved) _
    (each_map Fits unresolved_symbol P.program.unresolved (each_always _ P.program.unresolved (λ y. outside (is_section (unresolved_symbol y)) (0 == s) (nat_lt 0 x.origin || nat_lt (note_end x) (0 + 0)) (no_section y.weak))))
    (each_map Fits (register_symbol P.program.registers) _ (each_always _ _ (λ y. refl)))))))
  where
    Fits : SymbolItem → Type 0
    Fits y = is_astray x s y ≡ false

-- ---- the note

never_both : (before beyond : Bool) → (before ≡ true → beyond ≡ false) → (before && beyond) ≡ false
never_both true beyond fails = fails refl
never_both false beyond fails = refl

-- what has to end before segment s begins does
ends_before : (P : Laid) (parent : ℕ) (before : Bool) (r s : ℕ) → IsTree P.tree → 1 ≤ r → r ≤ length P.tree → 1 ≤ s → s ≤ length P.tree
    → parent ≡ parent_of P.tree s → parent_of P.tree 1 ≡ 0 → before ≡ nat_lt (region_of P.tree r) (region_of P.tree s)
    → (r == parent || before) ≡ true → end_of P r ≤ origin P s
ends_before P parent before r s t low high some last is none lower holds =
    elim (eqb_tells r parent) as (λ _. end_of P r ≤ origin P s) [
      | inl w ↦ by_parent w.1
      | inr w ↦
          lower_regions_end_before P.tree (size P) r s low high
          (ltb-true (region_of P.tree r) (region_of P.tree s) (sym lower ∙ (sym (ap (λ b. b || before) w.0) ∙ holds)))
    ]
  where
    by_parent : r ≡ parent → end_of P r ≤ origin P s
    by_parent same =
        elim (eqb_tells s 1) as (λ _. end_of P r ≤ origin P s) [
          | inl v ↦ absurd (omega (arith, low, same ∙ is ∙ ap (parent_of P.tree) v.1 ∙ none))
          | inr v ↦
              subst (λ a. end_of P a ≤ origin P s) (sym (same ∙ is))
              (parent_ends_before P.tree (size P) s t (second s some v.1) last)
        ]
      where
        second : (s : ℕ) → 1 ≤ s → s ≢ 1 → 2 ≤ s
        second s some differ = omega (arith, some, differ)

none_of_five : (a b c d e : Bool) → a ≡ false → b ≡ false → c ≡ false → d ≡ false → e ≡ false → (a || b || c || d || e) ≡ false
none_of_five a b c d e p q r s t = rw (p, q, r, s, t) refl

pub note_is_right : (P : Laid) (scatter : Bool) (n : ℕ) (Q : Placement) (m : Fetched) (M : Storage) (s : ℕ) → IsLinkable P → IsFormat P scatter n
    → IsFetched P scatter n Q m → is_overlay P.tree ≡ true → length (written_bytes P scatter n) ≤ 16777214
    → Says P.tree (parent_in m M) (region_in m M) → parent_of P.tree 1 ≡ 0 → 1 ≤ s → s ≤ length P.tree → is_wrong_note m M s ≡ false
note_is_right P scatter n Q m M s link format is over few says none low high =
    let first : (note m s).first ≡ records_before P scatter n s + 1 = first_is P scatter n Q m s link format is over few low high in
    let counted : count m ≡ length P.tree = count_is P scatter n Q m link is in
    none_of_five ((note m s).first == 0) (nat_lt (length m.records) (note m s).first) (nat_lt m.entry.length (note_end (note m s)))
    (list_any (λ r. comes_before m M s r && nat_lt (note m s).origin (note_end (note m r))) (segments_of m))
    (list_any (is_astray (note m s) s) m.facts.symbols)
    (ne_eqb (note m s).first 0 (λ zero. omega (arith, zero, first)))
    (lt_no (length m.records) (note m s).first
    (subst (λ k. k ≤ length m.records) (sym first)
    (subst (λ l. records_before P scatter n s + 1 ≤ length l) (sym is.records) (next (records_before P scatter n s) _ (first_within P scatter n s link format low high)))))
    (lt_no m.entry.length (note_end (note m s))
    (subst (λ e. e ≤ m.entry.length) (sym (end s low high)) (subst (λ l. end_of P s ≤ l) (sym is.length) (segments-end P s low high))))
    (none_of_range _ 1 (count m) (λ r some bound.
    never_both (comes_before m M s r) (nat_lt (note m s).origin (note_end (note m r))) (λ before.
    let last : r ≤ length P.tree = omega (arith, bound, counted) in
    lt_no (note m s).origin (note_end (note m r))
    (subst (λ e. e ≤ (note m s).origin) (sym (end r some last))
    (subst (λ o. end_of P r ≤ o) (sym (from s low high))
    (ends_before P (parent_in m M s) (nat_lt (region_in m M r) (region_in m M s)) r s link.tree some last low high (says.parents s low high) none
    (ap (λ k. nat_lt k (region_in m M s)) (says.regions r some last) ∙ ap (nat_lt (region_of P.tree r)) (says.regions s low high)) before))))))
    (ap (list_any (is_astray (note m s) s)) is.symbols ∙ not_astray P (note m s) s link.tree (from s low high) (end s low high))
  where
    from : (r : ℕ) → 1 ≤ r → r ≤ length P.tree → (note m r).origin ≡ origin P r
    from r some last = ap (λ (x : NoteItem). x.origin) (note_is P scatter n Q m r link format is over some last)

    end : (r : ℕ) → 1 ≤ r → r ≤ length P.tree → note_end (note m r) ≡ end_of P r
    end r some last = ap note_end (note_is P scatter n Q m r link format is over some last)

    next : (a b : ℕ) → a < b → a + 1 ≤ b
    next a b low = omega arith
