-- What any reader expects of the definitions, each stated once and kept by a function of its own. They follow from
-- the definitions, and so have the sources of these: GC28-6538 and this project's profile.
use Rattle.std.specs.Prelude.{◌≡◌, ◌≢◌, ℕ, ◌+◌, ◌<◌, ◌≤◌, Bool, true, false, List, [], ◌∷◌, reverse, length, map, filter, nat_lt, Some, None, slice_get, is_some, ◌⊎◌}
use Rattle.le_bytes.specs.declared.record_what.EventWhat.{EventWhat}
use Rattle.le_bytes.specs.declared.name.Name.{Name}
use Rattle.sym_mod.specs.declared.program.Program.{Program}
use Rattle.sym_mod.specs.declared.program.Section.{Section}
use Rattle.sym_mod.specs.declared.program.Target.{Target}
use Rattle.linking_model.specs.Numbers.{round8, greatest}
use Rattle.linking_model.specs.Tree.{Tree, IsTree, IsSmall, Overlays, overlaid, overlay_fault, path, parent_of, region_of, regions, segments, is_on_path}
use Rattle.linking_model.specs.Places.{Laid, place, table_place, origin, origin_by, end_of, entry_count, entab_length}
use Rattle.linking_model.specs.Tables.{holder, is_called_from, is_direct, is_exclusive, segment_of}
use Rattle.linking_model.specs.Linked.{Placement, constant_at, linked_byte}
use Rattle.linking_model.specs.Run.{State, Event, Stops, step, run_from}

-- ---- trees

-- from the root on, each path begins at the root
abbrev pub PathsBeginAtRoot : Type 0
PathsBeginAtRoot =
    (tree : Tree) (s : ℕ) → IsTree tree → 1 ≤ s → s ≤ length tree → slice_get (reverse (path tree s)) 0 ≡ Some 1

-- each segment is on its own path
abbrev pub SegmentsAreOnTheirPaths : Type 0
SegmentsAreOnTheirPaths = (tree : Tree) (s : ℕ) → 1 ≤ s → s ≤ length tree → is_on_path tree s s ≡ true

-- a segment below the root has an earlier one as its parent, in its own region unless that is the root
pub record HasParent (tree : Tree) (s : ℕ) : Type 0 where
  pub below_root : 1 ≤ parent_of tree s
  pub earlier : parent_of tree s < s
  pub numbered : 1 ≤ region_of tree s
  pub bounded : region_of tree s ≤ regions tree
  pub same_region : (parent_of tree s ≡ 1) ⊎ (region_of tree s ≡ region_of tree (parent_of tree s))

-- each segment below the root has such a parent
abbrev pub SegmentsHaveParents : Type 0
SegmentsHaveParents = (tree : Tree) (s : ℕ) → IsTree tree → 2 ≤ s → s ≤ length tree → HasParent tree s

-- OVERLAY statements make a tree
abbrev pub StatementsMakeTrees : Type 0
StatementsMakeTrees =
    (o : Overlays) (symbol : Name) (region : Bool) → IsTree o.tree → length o.tree ≡ length o.symbols + 1
    → IsTree (overlaid o symbol region).tree

-- OVERLAY statements that are not refused keep it small
abbrev pub StatementsKeepTreesSmall : Type 0
StatementsKeepTreesSmall =
    (o : Overlays) (symbol : Name) (region : Bool) → IsTree o.tree → length o.tree ≡ length o.symbols + 1 → IsSmall o.tree
    → overlay_fault o symbol region ≡ None → IsSmall (overlaid o symbol region).tree

-- ---- places

-- sections of one segment do not overlap
abbrev pub SectionsAreApart : Type 0
SectionsAreApart =
    (P : Laid) (i j : ℕ) (x y : Section) → i < j → slice_get P.program.sections i ≡ Some x
    → slice_get P.program.sections j ≡ Some y → x.segment ≡ y.segment → place P i + x.length ≤ place P j

-- a section stands between the origin and the end of its segment
pub record LiesInSegment (P : Laid) (i : ℕ) (x : Section) : Type 0 where
  pub begins : origin P x.segment ≤ place P i
  pub ends : place P i + x.length ≤ end_of P x.segment

-- each section does
abbrev pub SectionsLieInSegments : Type 0
SectionsLieInSegments =
    (P : Laid) (i : ℕ) (x : Section) → slice_get P.program.sections i ≡ Some x → LiesInSegment P i x

-- a table of entries ends its segment
abbrev pub TablesEndSegments : Type 0
TablesEndSegments =
    (P : Laid) (s : ℕ) → 0 < entry_count P s → table_place P s + entab_length (entry_count P s) ≡ end_of P s

-- a segment in its parent's region begins where its parent ends, at the next multiple of 8
abbrev pub OriginsFollowParents : Type 0
OriginsFollowParents =
    (tree : Tree) (sizes : ℕ → ℕ) (s : ℕ) → IsTree tree → 2 ≤ s → s ≤ length tree
    → region_of tree s ≡ region_of tree (parent_of tree s)
    → origin_by tree sizes s ≡ round8 (origin_by tree sizes (parent_of tree s) + sizes (parent_of tree s))

-- the greatest end of a segment in a region below r
abbrev pub end_below : Tree → (ℕ → ℕ) → ℕ → ℕ
end_below tree sizes r =
    greatest (map (λ t. origin_by tree sizes t + sizes t) (filter (λ t. nat_lt (region_of tree t) r) (segments tree)))

-- any other begins where all segments of lower regions have ended
abbrev pub OriginsFollowRegions : Type 0
OriginsFollowRegions =
    (tree : Tree) (sizes : ℕ → ℕ) (s : ℕ) → IsTree tree → 2 ≤ s → s ≤ length tree
    → region_of tree s ≢ region_of tree (parent_of tree s)
    → origin_by tree sizes s ≡ round8 (end_below tree sizes (region_of tree s))

-- what is above a segment ends before it begins
abbrev pub AncestorsEndBefore : Type 0
AncestorsEndBefore =
    (tree : Tree) (sizes : ℕ → ℕ) (a s : ℕ) → IsTree tree → 1 ≤ s → s ≤ length tree → is_on_path tree a s ≡ true → a ≢ s
    → origin_by tree sizes a + sizes a ≤ origin_by tree sizes s

-- what is in a lower region ends before a segment begins
abbrev pub LowerRegionsEndBefore : Type 0
LowerRegionsEndBefore =
    (tree : Tree) (sizes : ℕ → ℕ) (t s : ℕ) → 1 ≤ t → t ≤ length tree → region_of tree t < region_of tree s
    → origin_by tree sizes t + sizes t ≤ origin_by tree sizes s

-- ---- tables

-- a holder is on the path of every segment that uses it
abbrev pub HoldersAreOnPaths : Type 0
HoldersAreOnPaths =
    (p : Program) (tree : Tree) (a : ℕ) (y : Target) (b : ℕ) → holder p tree a y ≡ Some b → is_on_path tree b a ≡ true

-- what a holder holds for another segment it holds for itself
abbrev pub HoldersHoldForThemselves : Type 0
HoldersHoldForThemselves =
    (p : Program) (tree : Tree) (a : ℕ) (y : Target) (b : ℕ) → IsTree tree → 1 ≤ a → a ≤ length tree
    → holder p tree a y ≡ Some b → holder p tree b y ≡ Some b

-- a call that is neither direct nor exclusive has a holder
abbrev pub CallsHaveHolders : Type 0
CallsHaveHolders =
    (p : Program) (tree : Tree) (a : ℕ) (y : Target) → 1 ≤ a → a ≤ length tree → is_called_from p y a ≡ true
    → is_direct p tree a y ≡ false → is_exclusive p tree a y ≡ false → is_some (holder p tree a y) ≡ true

-- what stands in another region is never exclusive
abbrev pub OtherRegionsAreNotExclusive : Type 0
OtherRegionsAreNotExclusive =
    (p : Program) (tree : Tree) (a : ℕ) (y : Target) → region_of tree (segment_of p y) ≢ region_of tree a
    → is_exclusive p tree a y ≡ false

-- ---- bytes

-- outside constants linked bytes are the same wherever the program stands
abbrev pub PlainBytesStay : Type 0
PlainBytesStay =
    (P : Laid) (q r : Placement) (i o : ℕ) → constant_at P.program.constants i o ≡ None
    → linked_byte P q i o ≡ linked_byte P r i o

-- ---- runs

-- a run ends at the first refused event, with the state before it
abbrev pub RefusedEventsChangeNothing : Type 0
RefusedEventsChangeNothing =
    (P : Laid) (q : Placement) (S : State) (e : Event) (events : List Event) (why : EventWhat)
    → step P q S e ≡ Stops why
    → run_from P q S (e ∷ events) ≡ record { outcomes = []; refusal = Some why; state = S }
