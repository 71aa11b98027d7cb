-- The segments of an overlay program: a tree in which segments of different branches share storage.
-- That OVERLAY begins a segment after the current one, or beside the first one of a symbol that was used, and
-- that REGION begins one apart, follows GC28-6538. The numbers and the limits are this project's profile.
use Rattle.std.specs.Prelude.{◌≡◌, ℕ, ◌+◌, ◌≤◌, Bool, true, false, not, ◌&&◌, ◌==◌, nat_lt, if◌then◌else◌, List, [], ◌∷◌, ◌++◌, length, Option, Some, None, map, find, unwrap_or, option_map, is_some, position, ◌⊎◌}
use Rattle.std.specs.List.{list_any, list_all}
use Rattle.le_bytes.specs.declared.name.Name.{Name}
use Rattle.le_bytes.specs.Names.{name_eq}
use Rattle.linking_model.specs.declared.segment.Segment.{Segment}
use Rattle.linking_model.specs.Numbers.{greatest}

-- the segments, the last begun first: a segment has the number of those from it on
abbrev pub Tree : Type 0
Tree = List Segment

-- the root has no parent and is in the first region
abbrev pub root : Segment
root = record { parent = 0; region = 1 }

-- the parent of segment s, 0 of the root
unfoldable pub parent_of : Tree → ℕ → ℕ
parent_of [] s = 0
parent_of (x ∷ older) s = if s == length older + 1 then x.parent else parent_of older s

-- the region of segment s
unfoldable pub region_of : Tree → ℕ → ℕ
region_of [] s = 0
region_of (x ∷ older) s = if s == length older + 1 then x.region else region_of older s

-- the segment and its ancestors, up to the root
unfoldable pub path : Tree → ℕ → List ℕ
path [] s = []
path (x ∷ older) s = if s == length older + 1 then s ∷ path older x.parent else path older s

-- the numbers of the segments, ascending
unfoldable pub segments : Tree → List ℕ
segments [] = []
segments (x ∷ older) = segments older ++ (length older + 1) ∷ []

-- the number of regions
unfoldable pub regions : Tree → ℕ
regions tree = greatest (map (λ x. x.region) tree)

-- the number is in the list
abbrev pub is_in : ℕ → List ℕ → Bool
is_in s list = list_any (λ r. r == s) list

-- a is on the path of s
abbrev pub is_on_path : Tree → ℕ → ℕ → Bool
is_on_path tree a s = is_in a (path tree s)

-- t is below s
abbrev pub is_below : Tree → ℕ → ℕ → Bool
is_below tree t s = is_on_path tree s t && not (t == s)

-- t is away from s: in another region, and not on its path
abbrev pub is_away : Tree → ℕ → ℕ → Bool
is_away tree t s = not (is_on_path tree t s) && not (region_of tree t == region_of tree s)

-- the lowest of the segments that are on every path
unfoldable pub lowest_common : Tree → List ℕ → ℕ
lowest_common tree [] = 1
lowest_common tree (s ∷ rest) = unwrap_or (find (λ c. list_all (is_on_path tree c) rest) (path tree s)) 1

-- ---- which lists are trees

-- a segment may begin after these: below one of them, and in its parent's region, but below the root in any
-- region so far or in the next
pub record MayBegin (older : Tree) (x : Segment) : Type 0 where
  pub below_root : 1 ≤ x.parent
  pub below_earlier : x.parent ≤ length older
  pub numbered : 1 ≤ x.region
  pub next : x.region ≤ regions older + 1
  pub same_region : (x.parent ≡ 1) ⊎ (x.region ≡ region_of older x.parent)

-- the list begins with the root, and each later segment may begin after those before it
abbrev pub IsTree : Tree → Type 0
IsTree [] = ⊥
IsTree (x ∷ []) = x ≡ root
IsTree (x ∷ y ∷ older) = MayBegin (y ∷ older) x × IsTree (y ∷ older)

-- numbers of segments have a byte, and a module has at most four regions
pub record IsSmall (tree : Tree) : Type 0 where
  pub few_segments : length tree ≤ 255
  pub few_regions : regions tree ≤ 4

-- ---- OVERLAY statements

-- the tree, and the symbols at which its segments from the second on begin
pub record Overlays : Type 0 where
  pub tree : Tree
  pub symbols : List Name

-- before any OVERLAY statement: the root alone, in the first region
abbrev pub plain : Overlays
plain = record { tree = root ∷ []; symbols = [] }

-- the first segment of a symbol
abbrev pub first_of : List Name → Name → Option ℕ
first_of symbols symbol = option_map (λ i. i + 2) (position (λ x. name_eq x symbol) symbols)

-- the next segment: at a used symbol beside its first, with REGION below the root in the next region, and
-- else below the current segment in its region
abbrev pub next_segment : Tree → Bool → Option ℕ → Segment
next_segment tree region (Some first) = record { parent = parent_of tree first; region = region_of tree first }
next_segment tree true None = record { parent = 1; region = regions tree + 1 }
next_segment tree false None = record { parent = length tree; region = region_of tree (length tree) }

-- after OVERLAY with this symbol, with or without REGION
unfoldable pub overlaid : Overlays → Name → Bool → Overlays
overlaid o symbol region = record {
  tree = next_segment o.tree region (first_of o.symbols symbol) ∷ o.tree;
  symbols = o.symbols ++ symbol ∷ [];
}

-- why OVERLAY begins no segment: REGION at a used symbol, a fifth region, or too many segments
pub data OverlayFault : Type 0 where
  RegionNameUsed : Name → OverlayFault
  TooManyRegions : ℕ → OverlayFault
  TooManySegments : ℕ → OverlayFault

-- the fault of an OVERLAY statement, none where it begins a segment
unfoldable pub overlay_fault : Overlays → Name → Bool → Option OverlayFault
overlay_fault o symbol region =
    if region && is_some (first_of o.symbols symbol) then Some (RegionNameUsed symbol)
    else (if region && nat_lt 3 (regions o.tree) then Some (TooManyRegions (regions o.tree + 1))
    else (if nat_lt 254 (length o.tree) then Some (TooManySegments (length o.tree + 1))
    else None))
