-- The segments of a member other than the root, by their statements. The statements are those of GC28-6538, and the
-- symbols that they have is this project's profile.
use Rattle.std.specs.Prelude.{ℕ, ◌+◌, ◌-◌, ◌/◌, ◌%◌, Bool, false, ◌==◌, List, [], ◌∷◌, length, map, filter, slice_get}
use Rattle.std.specs.List.{list_any}
use Rattle.std.specs.Option.{option_map_or}
use Rattle.le_bytes.specs.declared.name.Name.{Name}
use Rattle.load_recs.specs.declared.items.SymbolItem.{SymbolItem}
use Rattle.member_model.specs.Relink.{Statement, OverlayBelow, OverlayRegion, is_inserted, overlay_statement}
use Rattle.member_model.specs.Starting.{later_segments}
use Rattle.list_text.specs.declared.relinking.Relink.{Relink}
use Rattle.list_text.specs.declared.relinking.RelinkSegment.{RelinkSegment}
use Rattle.relink_list.specs.declared.tree.SegmentPlace.{SegmentPlace}

-- the parent and the region of segment s; the places are those of segment 1 and so on
abbrev pub parent_of : List SegmentPlace → ℕ → ℕ
parent_of tree s = option_map_or (λ x. x.parent) (slice_get tree (s - 1)) 0

abbrev pub region_of : List SegmentPlace → ℕ → ℕ
region_of tree s = option_map_or (λ x. x.region) (slice_get tree (s - 1)) 0

-- one of the places is in the region
abbrev pub has_region : List SegmentPlace → ℕ → Bool
has_region places region = list_any (λ x. x.region == region) places

-- a letter in EBCDIC and a number in three decimal digits
abbrev pub symbol_name : ℕ → ℕ → Name
symbol_name letter n =
    record { 0 = letter ∷ (240 + n / 100) ∷ (240 + n / 10 % 10) ∷ (240 + n % 10) ∷ 64 ∷ 64 ∷ 64 ∷ 64 ∷ [] }

-- the segment that an OVERLAY statement begins, with these sections: its symbol is P and the parent's number, or R and
-- the region's
abbrev pub begun : Statement → List Name → RelinkSegment
begun (OverlayBelow parent) names = record { symbol = symbol_name 215 parent; region = false; inserts = names }
begun (OverlayRegion region first) names = record { symbol = symbol_name 217 region; region = first; inserts = names }
begun other names = record { symbol = record { 0 = [] }; region = false; inserts = names }

-- the names of the sections that INSERT statements name in segment s
abbrev pub inserts_of : List SymbolItem → ℕ → List Name
inserts_of symbols s = map (λ x. x.name) (filter (is_inserted s) symbols)

abbrev pub segment_of : List SegmentPlace → List SymbolItem → ℕ → RelinkSegment
segment_of tree symbols s = begun (overlay_statement (parent_of tree) (region_of tree) s) (inserts_of symbols s)

-- the segments from 2 on
unfoldable pub relink_segments : List SegmentPlace → List SymbolItem → List RelinkSegment
relink_segments tree symbols = map (segment_of tree symbols) (later_segments (length tree))

-- the statements for a member of this name, with these other names
abbrev pub relink_of : Name → List Name → List SegmentPlace → List SymbolItem → Relink
relink_of name aliases tree symbols =
    record { member = name; aliases = aliases; segments = relink_segments tree symbols }
