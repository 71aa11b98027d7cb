-- Where an overlay member cannot start: its segment table says no tree of segments, or its note list does not fit it
-- (this project's profile).
use Rattle.std.specs.Prelude.{ℕ, ◌+◌, ◌-◌, Bool, not, ◌&&◌, ◌||◌, ◌==◌, nat_lt, nat_le, if◌then◌else◌, List, map, length, find, Option, Some, None, option_map, is_none}
use Rattle.std.specs.List.{list_any, range_with_len}
use Rattle.le_bytes.specs.declared.record_what.StartWhat.{StartWhat}
use Rattle.le_bytes.specs.declared.record_what.StartWhat.TheVariants.{BadSegtab, BadNoteList}
use Rattle.load_recs.specs.declared.items.SymbolItem.{SymbolItem}
use Rattle.load_recs.specs.declared.items.NoteItem.{NoteItem}
use Rattle.linking_model.specs.Numbers.{greatest}
use Rattle.linking_model.specs.Run.{Storage}
use Rattle.member_model.specs.Symbols.{is_overlay_member, is_section, end_of}
use Rattle.member_model.specs.Fetched.{Fetched, first_storage}
use Rattle.member_model.specs.Segments.{count, segments_of, segtab_item, segtab, segment_byte, parent_in, region_in, note, note_end}

-- the segments of n but the root
abbrev pub later_segments : ℕ → List ℕ
later_segments n = range_with_len 2 (n - 1)

-- the segments before s
abbrev pub earlier : ℕ → List ℕ
earlier s = range_with_len 1 (s - 1)

-- ---- the segment table

-- a parent that does not come before, another region than the parent's below another segment than the root, or,
-- below the root, a region that is neither one so far nor the next
abbrev pub is_wrong_place : (ℕ → ℕ) → (ℕ → ℕ) → ℕ → Bool
is_wrong_place parent region s =
    parent s == 0 || nat_le s (parent s)
    || not (parent s == 1) && not (region s == region (parent s))
    || parent s == 1 && (region s == 0 || nat_lt (greatest (map region (earlier s)) + 1) (region s))

-- neither the first of a region above 1, nor beside an earlier segment, nor in one region below the one before it
abbrev pub is_wrong_order : (ℕ → ℕ) → (ℕ → ℕ) → ℕ → Bool
is_wrong_order parent region s =
    not (nat_lt 1 (region s) && not (list_any (λ r. region r == region s) (earlier s)))
    && not (list_any (λ r. parent r == parent s && region r == region s) (earlier s))
    && (not (parent s == s - 1) || not (region (parent s) == region s))

-- segment 1 alone is resident
abbrev pub first_status : ℕ → ℕ
first_status s = if s == 1 then 255 else 0

-- the segment table is not there, or says no tree of so many segments, of which segment 1 alone is resident
abbrev pub is_wrong_segtab : Fetched → Storage → Bool
is_wrong_segtab m M =
    let n = count m in let parent = parent_in m M in let region = region_in m M in
    let highest = M (segtab m + 1) in
    is_none (segtab_item m)
    || not (M (segtab m) == n)
    || not (highest == greatest (map region (segments_of m))) || nat_lt 4 highest
    || not (parent 1 == 0) || not (region 1 == 1)
    || list_any (is_wrong_place parent region) (later_segments n)
    || list_any (is_wrong_order parent region) (later_segments n)
    || list_any (λ s. not (segment_byte m M 2 s == first_status s)) (segments_of m)

-- ---- the note list

-- a section of segment s that does not lie in its range
abbrev pub is_astray : NoteItem → ℕ → SymbolItem → Bool
is_astray x s y = is_section y && y.segment == s && (nat_lt y.address x.origin || nat_lt (note_end x) (end_of y))

-- the range of segment r has to end before segment s begins: r is its parent, or in a lower region
abbrev pub comes_before : Fetched → Storage → ℕ → ℕ → Bool
comes_before m M s r = r == parent_in m M s || nat_lt (region_in m M r) (region_in m M s)

-- the note of segment s does not fit the records, the module, the tree or the sections
abbrev pub is_wrong_note : Fetched → Storage → ℕ → Bool
is_wrong_note m M s =
    let x = note m s in
    x.first == 0 || nat_lt (length m.records) x.first
    || nat_lt m.entry.length (note_end x)
    || list_any (λ r. comes_before m M s r && nat_lt x.origin (note_end (note m r))) (segments_of m)
    || list_any (is_astray x s) m.facts.symbols

-- ---- the first fault

-- why the member does not start, none where it starts; one without overlay always does
unfoldable pub start_fault : Fetched → Option StartWhat
start_fault m =
    let M = first_storage m in
    if not (is_overlay_member m.entry) then None
    else (if is_wrong_segtab m M then Some BadSegtab
    else option_map (λ s. BadNoteList s) (find (is_wrong_note m M) (segments_of m)))
