-- Where sections and overlay tables stand in a module. That each segment begins where its parent ends, and each
-- region where all before it end, follows GC28-6538; multiples of 8 and the tables are this project's profile.
use Rattle.std.specs.Prelude.{ℕ, zero, suc, ◌+◌, ◌-◌, ◌*◌, max, Bool, ◌&&◌, ◌==◌, nat_lt, if◌then◌else◌, List, [], ◌∷◌, ◌++◌, length, map, filter, sum_by, take, drop, slice_get}
use Rattle.std.specs.Option.{option_map_or}
use Rattle.sym_mod.specs.declared.program.Program.{Program}
use Rattle.sym_mod.specs.declared.program.Section.{Section}
use Rattle.sym_mod.specs.declared.program.Target.{Target}
use Rattle.linking_model.specs.Numbers.{round8, greatest, extent}
use Rattle.linking_model.specs.Tree.{Tree, path, segments, region_of}

-- a program with its segments, and the targets that have an entry in the table of each, segment 1 first
pub record Laid : Type 0 where
  pub program : Program
  pub tree : Tree
  pub entries : List (List Target)

-- there are segments beside the root
abbrev pub is_overlay : Tree → Bool
is_overlay tree = nat_lt 1 (length tree)

-- the targets that have an entry in the table of segment s
abbrev pub entries_of : Laid → ℕ → List Target
entries_of P s = option_map_or (λ x. x) (slice_get P.entries (s - 1)) []

-- how many these are
abbrev pub entry_count : Laid → ℕ → ℕ
entry_count P s = length (entries_of P s)

-- ---- what stands in a segment

-- eight bytes, and four for each segment
abbrev pub segtab_length : Tree → ℕ
segtab_length tree = 8 + 4 * length tree

-- eight bytes, twelve for each entry, and the last four
abbrev pub entab_length : ℕ → ℕ
entab_length entries = 12 * entries + 12

-- `$SEGTAB` stands first in the root of an overlay program
abbrev pub has_segtab : Tree → ℕ → Bool
has_segtab tree s = is_overlay tree && s == 1

-- the length of `$SEGTAB` in the segment that has it
abbrev pub head_lengths : Tree → ℕ → List ℕ
head_lengths tree s = if has_segtab tree s then segtab_length tree ∷ [] else []

-- `$ENTAB` stands last in a segment that has entries
abbrev pub table_lengths : ℕ → List ℕ
table_lengths entries = if entries == 0 then [] else entab_length entries ∷ []

-- the lengths of those of the sections that are in segment s
abbrev pub section_lengths : List Section → ℕ → List ℕ
section_lengths sections s = map (λ x. x.length) (filter (λ x. x.segment == s) sections)

-- the lengths of all that stands in segment s, in order
abbrev pub lengths : Laid → ℕ → List ℕ
lengths P s = head_lengths P.tree s ++ section_lengths P.program.sections s ++ table_lengths (entry_count P s)

-- the length of segment s, which ends where the last that stands in it ends
unfoldable pub size : Laid → ℕ → ℕ
size P s = extent (lengths P s)

-- ---- origins, by the sizes of the segments

-- the ancestors of s that are in its region
abbrev pub above_in_region : Tree → ℕ → List ℕ
above_in_region tree s = filter (λ a. region_of tree a == region_of tree s) (drop 1 (path tree s))

-- how far the origin of s is from where its region starts: past its ancestors there
unfoldable pub depth : Tree → (ℕ → ℕ) → ℕ → ℕ
depth tree sizes s = sum_by (λ a. round8 (sizes a)) (above_in_region tree s)

-- the segments of region r
abbrev pub segments_of_region : Tree → ℕ → List ℕ
segments_of_region tree r = filter (λ s. region_of tree s == r) (segments tree)

-- the ends of the segments of a region that starts there
abbrev pub ends_from : Tree → (ℕ → ℕ) → ℕ → ℕ → List ℕ
ends_from tree sizes start r = map (λ s. start + depth tree sizes s + sizes s) (segments_of_region tree r)

-- where region r starts: after the greatest end in all lower regions
unfoldable pub region_start : Tree → (ℕ → ℕ) → ℕ → ℕ
region_start tree sizes zero = 0
region_start tree sizes (suc r) =
    let start = region_start tree sizes r in max start (round8 (greatest (ends_from tree sizes start r)))

-- where segment s begins, by the sizes of all
unfoldable pub origin_by : Tree → (ℕ → ℕ) → ℕ → ℕ
origin_by tree sizes s = region_start tree sizes (region_of tree s) + depth tree sizes s

-- ---- addresses in the module

-- where segment s begins
abbrev pub origin : Laid → ℕ → ℕ
origin P s = origin_by P.tree (size P) s

-- where segment s ends
abbrev pub end_of : Laid → ℕ → ℕ
end_of P s = origin P s + size P s

-- the greatest end of a segment
abbrev pub module_length : Laid → ℕ
module_length P = greatest (map (end_of P) (segments P.tree))

-- the segment of section i, 0 where there is none
abbrev pub segment_of_section : Program → ℕ → ℕ
segment_of_section p i = option_map_or (λ x. x.segment) (slice_get p.sections i) 0

-- the length of section i, 0 where there is none
abbrev pub length_of_section : Program → ℕ → ℕ
length_of_section p i = option_map_or (λ x. x.length) (slice_get p.sections i) 0

-- the room that `$SEGTAB` takes at the head of segment s
abbrev pub head_room : Tree → ℕ → ℕ
head_room tree s = if has_segtab tree s then round8 (segtab_length tree) else 0

-- the room that a section takes in segment s
abbrev pub room_in : ℕ → Section → ℕ
room_in s x = if x.segment == s then round8 x.length else 0

-- the address of what stands in segment s after these sections
unfoldable pub place_after : Laid → ℕ → List Section → ℕ
place_after P s before = origin P s + head_room P.tree s + sum_by (room_in s) before

-- the address of section i
unfoldable pub place : Laid → ℕ → ℕ
place P i = place_after P (segment_of_section P.program i) (take i P.program.sections)

-- the address of the `$ENTAB` of segment s, or where it would stand
unfoldable pub table_place : Laid → ℕ → ℕ
table_place P s = place_after P s P.program.sections
