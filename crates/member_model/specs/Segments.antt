-- The segments of a member in storage, as `$SEGTAB` and the note list tell of them (this project's profile). Storage is
-- what it is at the time. A member without overlay has segment 1 alone, which is always resident.
use Rattle.std.specs.Prelude.{ℕ, zero, suc, ◌+◌, ◌-◌, ◌*◌, Bool, ◌&&◌, ◌==◌, if◌then◌else◌, List, [], ◌∷◌, filter, position, slice_get, Option, unwrap_or, option_map}
use Rattle.std.specs.List.{range_with_len}
use Rattle.std.specs.Option.{option_map_or}
use Rattle.sym_mod.specs.Reserved.{segment_table}
use Rattle.load_recs.specs.declared.items.SymbolItem.{SymbolItem}
use Rattle.load_recs.specs.declared.items.NoteItem.{NoteItem}
use Rattle.linking_model.specs.Run.{Storage}
use Rattle.member_model.specs.Symbols.{is_overlay_member, is_sd_named}
use Rattle.member_model.specs.Faults.{segment_count}
use Rattle.member_model.specs.Fetched.{Fetched}

-- how many segments the member has
abbrev pub count : Fetched → ℕ
count m = segment_count m.entry m.facts

-- their numbers, ascending
abbrev pub segments_of : Fetched → List ℕ
segments_of m = range_with_len 1 (count m)

-- ---- `$SEGTAB`

-- the item is a segment table for so many segments
abbrev pub is_segtab : Fetched → SymbolItem → Bool
is_segtab m x = is_sd_named segment_table x && x.segment == 1 && x.length == 8 + 4 * count m

-- the item number of the segment table: the first SD of its name in segment 1 that has room for all segments
abbrev pub segtab_item : Fetched → Option ℕ
segtab_item m = option_map (λ k. k + 1) (position (is_segtab m) m.facts.symbols)

-- its address
abbrev pub segtab : Fetched → ℕ
segtab m = option_map_or m.addresses (segtab_item m) 0

-- byte j of the four that tell of segment s
abbrev pub segment_byte : Fetched → Storage → ℕ → ℕ → ℕ
segment_byte m M j s = M (segtab m + 4 + 4 * s + j)

-- the parent of segment s, 0 of the root
abbrev pub parent_in : Fetched → Storage → ℕ → ℕ
parent_in m M s = if is_overlay_member m.entry then segment_byte m M 0 s else 0

-- the region of segment s
abbrev pub region_in : Fetched → Storage → ℕ → ℕ
region_in m M s = if is_overlay_member m.entry then segment_byte m M 1 s else 1

-- segment s is resident: its status byte is X'FF'
abbrev pub is_resident : Fetched → Storage → ℕ → Bool
is_resident m M s = if is_overlay_member m.entry then segment_byte m M 2 s == 255 else s == 1

-- the resident segments, ascending
abbrev pub residents : Fetched → Storage → List ℕ
residents m M = filter (is_resident m M) (segments_of m)

-- the segment and its ancestors, of segments 1 to k whose parents are below them
abbrev pub path_by : (ℕ → ℕ) → ℕ → ℕ → List ℕ
path_by parent zero s = []
path_by parent (suc k) s = if s == suc k then s ∷ path_by parent k (parent s) else path_by parent k s

-- the segment and its ancestors
abbrev pub path_in : Fetched → Storage → ℕ → List ℕ
path_in m M s = path_by (parent_in m M) (count m) s

-- ---- the note list

-- the note of a segment that has none
abbrev pub no_note : NoteItem
no_note = record { first = 0; origin = 0; length = 0 }

-- the note of segment s: its first record, and its range in the module
abbrev pub note : Fetched → ℕ → NoteItem
note m s = unwrap_or (slice_get m.facts.notes (s - 1)) no_note

-- the end of the range
abbrev pub note_end : NoteItem → ℕ
note_end x = x.origin + x.length
