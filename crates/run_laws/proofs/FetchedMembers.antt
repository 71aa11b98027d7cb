-- What a written member has when it was fetched: its items, its notes, and where its parts stand.
use Rattle.std.proofs.Common.{◌≡◌, ℕ, zero, suc, ◌+◌, ◌-◌, ◌<◌, ◌≤◌, Bool, true, false, if◌then◌else◌, List, [], ◌∷◌, drop, length, slice_get, inl, inr, refl, sym, ap, ◌∙◌, subst, arith}
use Rattle.std.specs.Prelude.{unwrap_or}
use Rattle.std.proofs.Math.Nat.{mod-eq_of_lt}
use Rattle.std.proofs.lemmas.Bool.{ltb-false, cases_lt}
use Rattle.pds_directory.specs.declared.entry.Entry.{Entry}
use Rattle.load_recs.specs.declared.items.NoteItem.{NoteItem}
use Rattle.linking_model.specs.Places.{Laid, is_overlay, module_length, origin}
use Rattle.linking_model.specs.Linked.{Placement, block}
use Rattle.linking_model.specs.Run.{start}
use Rattle.member_model.specs.SymbolList.{symbols_written, first_records}
use Rattle.member_model.specs.Symbols.{is_overlay_member}
use Rattle.member_model.specs.Facts.{Facts, no_facts, walked}
use Rattle.member_model.specs.Parts.{Part, SegmentTable, OneSection, EntryTable, parts, part_place, part_number}
use Rattle.member_model.specs.Loaded.{in_block}
use Rattle.member_model.specs.Fetched.{Fetched, fetched, first_storage}
use Rattle.member_model.specs.Segments.{count, note, no_note}
use Rattle.member_model.specs.AfterFailure.{SameBytes}
use Rattle.member_model.specs.Written.{note_item, note_items, note_record_count, written_bytes}
use Rattle.member_laws.specs.Linkable.{IsLinkable, IsFormat}
use Rattle.member_laws.specs.Storing.{HoldsSegment}
use Rattle.member_laws.specs.Gathered.{segment_lists, fields_in, notes_written, head_facts, with_segment, facts_written, records_before}
use Rattle.member_laws.proofs.Gathering.{tree-some, lists-count, next-segment, written_records_gather}
use Rattle.member_laws.proofs.HeadsWritten.{notes-count}
use Rattle.member_laws.proofs.LoadingBlock.{at_place, segments_load_linked}
use Rattle.member_laws.proofs.LoadingLists.{Among}
use Rattle.member_laws.proofs.LoadingMembers.{segment_held}
use Rattle.member_laws.proofs.SymbolsFine.{Describes, is-overlay}

-- ---- the facts of the heads and of segment 1

root_is : (P : Laid) (scatter : Bool) (n : ℕ) → facts_written P scatter n 1 ≡ with_segment P n 1 (head_facts P scatter n)
unfolding facts_written
root_is P scatter n = refl

pub root_facts : (P : Laid) (scatter : Bool) (n : ℕ) → IsLinkable P → IsFormat P scatter n
    → walked 1 no_facts (written_bytes P scatter n) ≡ with_segment P n 1 (head_facts P scatter n)
root_facts P scatter n link format = (written_records_gather P scatter n link format).root ∙ root_is P scatter n

pub root_symbols : (P : Laid) (scatter : Bool) (n : ℕ) → (with_segment P n 1 (head_facts P scatter n)).symbols ≡ symbols_written P
unfolding with_segment head_facts
root_symbols P scatter n = refl

pub root_notes : (P : Laid) (scatter : Bool) (n : ℕ) → (with_segment P n 1 (head_facts P scatter n)).notes ≡ notes_written P scatter n
unfolding with_segment head_facts
root_notes P scatter n = refl

pub root_fields : (P : Laid) (scatter : Bool) (n : ℕ) → (with_segment P n 1 (head_facts P scatter n)).fields ≡ fields_in P n 1
unfolding with_segment head_facts
root_fields P scatter n = refl

head_symbols : (P : Laid) (scatter : Bool) (n : ℕ) → (head_facts P scatter n).symbols ≡ symbols_written P
unfolding head_facts
head_symbols P scatter n = refl

head_texts : (P : Laid) (scatter : Bool) (n : ℕ) → (head_facts P scatter n).texts ≡ []
unfolding head_facts
head_texts P scatter n = refl

head_fields : (P : Laid) (scatter : Bool) (n : ℕ) → (head_facts P scatter n).fields ≡ []
unfolding head_facts
head_fields P scatter n = refl

pub root_held : (P : Laid) (scatter : Bool) (n : ℕ) → IsLinkable P → IsFormat P scatter n → HoldsSegment P n 1 (walked 1 no_facts (written_bytes P scatter n))
root_held P scatter n link format =
    subst (HoldsSegment P n 1) (sym (root_facts P scatter n link format))
    (segment_held P n 1 (head_facts P scatter n) (head_symbols P scatter n) (head_texts P scatter n) (head_fields P scatter n))

-- ---- a fetched member

-- where a part stands in a placement
abbrev pub part_at : Placement → Part → ℕ
part_at Q SegmentTable = Q.segtab
part_at Q (OneSection i) = Q.section i
part_at Q (EntryTable s) = Q.entab s

-- the member that was written for the program, fetched with its parts where the placement has them
pub record IsFetched (P : Laid) (scatter : Bool) (n : ℕ) (Q : Placement) (m : Fetched) : Type 0 where
  pub records : m.records ≡ written_bytes P scatter n
  pub facts : m.facts ≡ with_segment P n 1 (head_facts P scatter n)
  pub symbols : m.facts.symbols ≡ symbols_written P
  pub notes : m.facts.notes ≡ notes_written P scatter n
  pub fields : m.facts.fields ≡ fields_in P n 1
  pub overlay : is_overlay_member m.entry ≡ is_overlay P.tree
  pub length : m.entry.length ≡ module_length P
  pub parts : (x : Part) → Among x (parts P) → m.addresses (part_number P x) ≡ part_at Q x
  pub ranges : (s : ℕ) → is_overlay P.tree ≡ true → m.at + origin P s ≡ Q.range s
  pub storage : SameBytes (first_storage m) (start P Q).storage

in_block_at : (P : Laid) (at : ℕ) (x : Part) → Among x (parts P) → in_block (symbols_written P) at (part_number P x) ≡ part_at (block P at) x
in_block_at P at x among = at_place P at (symbols_written P) x refl among ∙ as_part x
  where
    as_part : (x : Part) → at + part_place P x ≡ part_at (block P at) x
    as_part SegmentTable = omega arith
    as_part (OneSection i) = refl
    as_part (EntryTable s) = refl

pub fetched_in_block : (P : Laid) (scatter : Bool) (n : ℕ) (e : Entry) (at : ℕ) → IsLinkable P → IsFormat P scatter n → Describes P scatter e
    → IsFetched P scatter n (block P at) (fetched e (written_bytes P scatter n) at)
fetched_in_block P scatter n e at link format describes =
    let F : Facts = walked 1 no_facts (written_bytes P scatter n) in
    let facts : F ≡ with_segment P n 1 (head_facts P scatter n) = root_facts P scatter n link format in
    let symbols : F.symbols ≡ symbols_written P = ap (λ (G : Facts). G.symbols) facts ∙ root_symbols P scatter n in
    record {
      records = refl;
      facts = facts;
      symbols = symbols;
      notes = ap (λ (G : Facts). G.notes) facts ∙ root_notes P scatter n;
      fields = ap (λ (G : Facts). G.fields) facts ∙ root_fields P scatter n;
      overlay = is-overlay P scatter e describes;
      length = describes.length;
      parts = λ x among. ap (λ symbols. in_block symbols at (part_number P x)) symbols ∙ in_block_at P at x among;
      ranges = λ s over. refl;
      storage = segments_load_linked P n 1 at F link format.some (omega arith) (tree-some P.tree link.tree) (root_held P scatter n link format);
    }

-- ---- segments and notes

pub notes_are_for : (P : Laid) (scatter : Bool) (n : ℕ) → is_overlay P.tree ≡ true → length (notes_written P scatter n) ≡ length P.tree
notes_are_for P scatter n over =
    let items = note_items P (length (first_records P scatter) + note_record_count P + 1) 1 (segment_lists P n) in
    ap (λ b. length (if b then items else [])) over
    ∙ notes-count P (length (first_records P scatter) + note_record_count P + 1) 1 (segment_lists P n) ∙ lists-count P n

-- the member has the segments of the program
pub count_is : (P : Laid) (scatter : Bool) (n : ℕ) (Q : Placement) (m : Fetched) → IsLinkable P → IsFetched P scatter n Q m → count m ≡ length P.tree
count_is P scatter n Q m link is = by_overlay (is_overlay P.tree) refl
  where
    by_overlay : (overlay : Bool) → is_overlay P.tree ≡ overlay → count m ≡ length P.tree
    by_overlay true over =
        ap (λ b. if b then length m.facts.notes else 1) (is.overlay ∙ over)
        ∙ ap length is.notes ∙ notes_are_for P scatter n over
    by_overlay false over =
        let one : length P.tree ≤ 1 = ltb-false 1 (length P.tree) over in
        let some : 1 ≤ length P.tree = tree-some P.tree link.tree in
        ap (λ b. if b then length m.facts.notes else 1) (is.overlay ∙ over) ∙ omega arith

-- the note of segment s is the one that was written
pub note_is : (P : Laid) (scatter : Bool) (n : ℕ) (Q : Placement) (m : Fetched) (s : ℕ) → IsLinkable P → IsFormat P scatter n
    → IsFetched P scatter n Q m → is_overlay P.tree ≡ true → 1 ≤ s → s ≤ length P.tree
    → note m s ≡ note_item P (records_before P scatter n s + 1) s
note_is P scatter n Q m s link format is over low high =
    ap (λ notes. unwrap_or (slice_get notes (s - 1)) no_note) is.notes
    ∙ ap (λ o. unwrap_or o no_note) ((written_records_gather P scatter n link format).noted s over low high)

nothing_read : (s : ℕ) (G : Facts) → walked s G [] ≡ G
unfolding walked
nothing_read s G = refl

-- a segment has a record, so that its first record is one of the member's
pub first_within : (P : Laid) (scatter : Bool) (n s : ℕ) → IsLinkable P → IsFormat P scatter n → 1 ≤ s → s ≤ length P.tree
    → records_before P scatter n s < length (written_bytes P scatter n)
first_within P scatter n s link format low high =
    elim (cases_lt (records_before P scatter n s) (length (written_bytes P scatter n))) as (λ _. records_before P scatter n s < length (written_bytes P scatter n)) [
      | inl w ↦ w
      | inr w ↦ absurd (none_left w)
    ]
  where
    F : Facts
    F = record no_facts { symbols = symbols_written P; segment = s }

    next_differs : (s : ℕ) → s ≡ s + 1 → ⊥
    next_differs s same = omega (arith, same)

    drop_past : (xs : List (List ℕ)) (k : ℕ) → length xs ≤ k → drop k xs ≡ []
    drop_past [] zero past = refl
    drop_past [] (suc k) past = refl
    drop_past (x ∷ xs) zero past = absurd (omega (arith, past))
    drop_past (x ∷ xs) (suc k) past = drop_past xs k (omega (arith, past))

    none_left : length (written_bytes P scatter n) ≤ records_before P scatter n s → ⊥
    none_left past =
        let read : walked s F (drop (records_before P scatter n s) (written_bytes P scatter n)) ≡ with_segment P n s F =
        (written_records_gather P scatter n link format).segment s F low high refl refl in
        let empty : drop (records_before P scatter n s) (written_bytes P scatter n) ≡ [] = drop_past (written_bytes P scatter n) (records_before P scatter n s) past in
        let same : F ≡ with_segment P n s F = sym (ap (walked s F) empty ∙ nothing_read s F) ∙ read in
        next_differs s (ap (λ (G : Facts). G.segment) same ∙ next-segment P n s F)

-- of a member of at most 16,777,214 records it names the segment's first record
pub first_is : (P : Laid) (scatter : Bool) (n : ℕ) (Q : Placement) (m : Fetched) (s : ℕ) → IsLinkable P → IsFormat P scatter n
    → IsFetched P scatter n Q m → is_overlay P.tree ≡ true → length (written_bytes P scatter n) ≤ 16777214 → 1 ≤ s → s ≤ length P.tree
    → (note m s).first ≡ records_before P scatter n s + 1
first_is P scatter n Q m s link format is over few low high =
    ap (λ (x : NoteItem). x.first) (note_is P scatter n Q m s link format is over low high)
    ∙ mod-eq_of_lt (within (records_before P scatter n s) (length (written_bytes P scatter n)) (first_within P scatter n s link format low high) few)
  where
    within : (a b : ℕ) → a < b → b ≤ 16777214 → a + 1 < 16777216
    within a b low high = omega arith
