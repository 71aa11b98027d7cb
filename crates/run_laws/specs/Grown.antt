-- The trees that OVERLAY statements give. That OVERLAY begins a segment after the current one, or beside the first one
-- of a symbol that was used, and that REGION begins one apart, follows GC28-6538.
use Rattle.std.specs.Prelude.{◌≡◌, ◌⊎◌, ℕ, ◌+◌, ◌≤◌, Bool, List, [], ◌∷◌, fold, length}
use Rattle.le_bytes.specs.declared.name.Name.{Name}
use Rattle.linking_model.specs.declared.segment.Segment.{Segment}
use Rattle.linking_model.specs.Tree.{Tree, IsTree, Overlays, root, plain, parent_of, region_of, regions, overlaid}

-- ---- which segments may follow

-- beside a segment below the root, in its region
pub record IsBeside (older : Tree) (x : Segment) : Type 0 where
  pub first : ℕ
  pub below_root : 2 ≤ first
  pub earlier : first ≤ length older
  pub parent : x.parent ≡ parent_of older first
  pub region : x.region ≡ region_of older first

-- the next segment: below the newest in its region, below the root in the next region, or beside an earlier one
abbrev pub MayFollow : Tree → Segment → Type 0
MayFollow older x =
    (x ≡ record { parent = length older; region = region_of older (length older) })
    ⊎ (x ≡ record { parent = 1; region = regions older + 1 })
    ⊎ IsBeside older x

-- the root, and after it segments of which each may follow those before it
abbrev pub IsGrown : Tree → Type 0
IsGrown [] = ⊥
IsGrown (x ∷ []) = x ≡ root
IsGrown (x ∷ y ∷ older) = MayFollow (y ∷ older) x × IsGrown (y ∷ older)

-- ---- statements

-- an OVERLAY statement: its symbol, and whether it has REGION
pub record Statement : Type 0 where
  pub symbol : Name
  pub region : Bool

-- the segments after these statements
abbrev pub grown : List Statement → Overlays
grown statements = fold (λ o x. overlaid o x.symbol x.region) plain statements

-- ---- laws

-- one more statement keeps a tree grown
abbrev pub StatementsKeepTreesGrown : Type 0
StatementsKeepTreesGrown =
    (o : Overlays) (symbol : Name) (region : Bool) → IsGrown o.tree → length o.tree ≡ length o.symbols + 1
    → IsGrown (overlaid o symbol region).tree

-- so all statements give one
abbrev pub StatementsGrowTrees : Type 0
StatementsGrowTrees = (statements : List Statement) → IsGrown (grown statements).tree

-- a grown tree is a tree
abbrev pub GrownTreesAreTrees : Type 0
GrownTreesAreTrees = (tree : Tree) → IsGrown tree → IsTree tree
