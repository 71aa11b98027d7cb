-- The segments that a node leads to: the node, those below it, and those beside it that were begun earlier.
use Rattle.std.specs.Prelude.{◌≡◌, ◌≢◌, ◌<◌, ◌+◌, ℕ, zero, suc, Bool, true, false, ◌||◌, ◌==◌, if◌then◌else◌, List, [], ◌∷◌, ◌++◌, length, get_or, Option, Some, None, option_map, is_some, option_and_then, Result, Ok, Err}
use Rattle.std.specs.Option.{option_or, option_map_or}
use Rattle.linking_model.specs.declared.segment.Segment.{Segment}
use Rattle.le_bytes.specs.declared.name.Name.{Name}
use Rattle.linking_model.specs.Tree.{Tree, IsTree, IsSmall, is_in, path, region_of, regions}
use Rattle.seg_tree.specs.declared.node.Node.{Node, Node', Held-Node-first, None', Some', out-Node}
use Rattle.std.specs.Prelude.{Box}
use Rattle.std.specs.declared.alloc.Global.{Global}

-- a segment that was found: its region, and the numbers of the segments above it, the nearest first
pub record Found : Type 0 where
  pub region : ℕ
  pub up : List ℕ

-- what was found below the segment of this number
abbrev pub beneath : ℕ → Found → Found
beneath number x = record x { up = x.up ++ number ∷ [] }

-- the segment of a number, in what a node leads to
abbrev mutual
  pub found : Node → ℕ → Option Found
  found (Node' number region first next) s =
      if number == s then Some (record { region = region; up = [] })
      else option_or (option_map (beneath number) (found_among first s)) (found_among next s)

  -- the same behind a place that may hold a node
  pub found_among : Held-Node-first → ℕ → Option Found
  found_among None' s = None
  found_among (Some' p node) s = found node s

-- the same behind a box
abbrev pub found_in : Option (Box Node Global) → ℕ → Option Found
found_in held s = option_and_then (λ b. found b.value s) held

-- its parent, where the uppermost of the segments above it stand below that of this number
abbrev pub parent_under : ℕ → Found → ℕ
parent_under above x = get_or (x.up ++ above ∷ []) 0 0

-- whether a is on its path, where s is its number, or was passed above
unfoldable pub passes : ℕ → ℕ → Bool → Found → Bool
passes a s passed x = is_in a (s ∷ x.up) || passed

-- segment s and those above it, none where it was not found
abbrev pub path_found : ℕ → Option Found → List ℕ
path_found s x = option_map_or (λ f. s ∷ f.up) x []

-- its parent and region, both 0 where it was not found
abbrev pub segment_found : Option Found → Segment
segment_found x = record { parent = option_map_or (parent_under 0) x 0; region = option_map_or (λ f. f.region) x 0 }

-- the segments of numbers 1 to n, the last first
abbrev pub begun : Node → ℕ → Tree
begun top zero = []
begun top (suc n) = segment_found (found top (suc n)) ∷ begun top n

-- what keeps the nodes and the lists alike: of each number the same path and region, and no segment but those
pub record Holds (top : Node) (count highest : ℕ) (tree : Tree) (symbols : List Name) : Type 0 where
  pub tree_is : IsTree tree
  pub small : IsSmall tree
  pub counted : length tree ≡ count
  pub regions_counted : regions tree ≡ highest
  pub begun_at : length tree ≡ length symbols + 1
  pub no_more : (s : ℕ) → count < s → found top s ≡ None
  pub same_path : (s : ℕ) → path_found s (found top s) ≡ path tree s
  pub same_region : (s : ℕ) → (segment_found (found top s)).region ≡ region_of tree s

-- a segment was put below its parent, and nothing else was changed, in what is found
pub record Hangs (old new : ℕ → Option Found) (above number in_region : ℕ) : Type 0 where
  pub there : is_some (old above) ≡ true
  pub others : (s : ℕ) → s ≢ number → new s ≡ old s
  pub own : old number ≡ None
      → new number ≡ option_map (λ f. record { region = in_region; up = above ∷ f.up }) (old above)

-- and it was, unless its parent was not found; want of memory changes nothing
abbrev pub HangAnswer : {E : Type 0} → Node → ℕ → ℕ → ℕ → Result Bool E → Node → Type 0
HangAnswer old above number region (Ok true) new = Hangs (found old) (found new) above number region
HangAnswer old above number region (Ok false) new = (new ≡ old) × (found old above ≡ None)
HangAnswer old above number region (Err _) new = new ≡ old

-- the same of what is below a node alone
abbrev pub BelowAnswer : {E : Type 0} → Node → ℕ → ℕ → ℕ → Result Bool E → Node → Type 0
BelowAnswer old above number region (Ok true) new = Hangs (found old) (found new) above number region
BelowAnswer old above number region (Ok false) new = (new ≡ old) × (found_in (out-Node old).first above ≡ None)
BelowAnswer old above number region (Err _) new = new ≡ old
