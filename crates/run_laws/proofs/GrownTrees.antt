-- OVERLAY statements give grown trees, and grown trees are trees.
use Rattle.std.proofs.Common.{◌≡◌, inl, inr, ℕ, ◌+◌, ◌<◌, ◌≤◌, Bool, true, false, List, [], ◌∷◌, ◌++◌, fold, length, Option, Some, None, position, option_map, refl, arith, length-append}
use Rattle.std.proofs.lemmas.List.Quantifiers.{position-Some}
use Rattle.le_bytes.specs.Names.{name_eq}
use Rattle.le_bytes.specs.declared.name.Name.{Name}
use Rattle.linking_model.specs.declared.segment.Segment.{Segment}
use Rattle.linking_model.specs.Tree.{Tree, IsTree, MayBegin, Overlays, plain, parent_of, region_of, first_of, next_segment, overlaid}
use Rattle.linking_model.specs.Laws.{HasParent}
use Rattle.linking_model.proofs.Trees.{IsRegion, segments_have_parents, segments_have_regions}
use Rattle.run_laws.specs.Grown.{MayFollow, IsGrown, Statement, StatementsKeepTreesGrown, StatementsGrowTrees, GrownTreesAreTrees}

-- ---- grown trees are trees

may_begin : (older : Tree) (x : Segment) → IsTree older → 1 ≤ length older → MayFollow older x → MayBegin older x
may_begin older x t some (inl is) =
    let region : IsRegion older (region_of older (length older)) = segments_have_regions older (length older) t some (omega arith) in
    rw is (record {
      below_root = some;
      below_earlier = omega arith;
      numbered = region.numbered;
      next = omega arith;
      same_region = inr refl;
    })
may_begin older x t some (inr (inl is)) =
    rw is (record {
      below_root = omega arith;
      below_earlier = some;
      numbered = omega arith;
      next = omega arith;
      same_region = inl refl;
    })
may_begin older x t some (inr (inr beside)) =
    let has : HasParent older beside.first = segments_have_parents older beside.first t beside.below_root beside.earlier in
    let parent : x.parent ≡ parent_of older beside.first = beside.parent in
    let region : x.region ≡ region_of older beside.first = beside.region in
    let earlier : beside.first ≤ length older = beside.earlier in
    record {
      below_root = rw parent has.below_root;
      below_earlier = rw parent (omega arith);
      numbered = rw region has.numbered;
      next = rw region (omega arith);
      same_region = rw (parent, region) has.same_region;
    }

pub grown_trees_are_trees : GrownTreesAreTrees
grown_trees_are_trees [] g = absurd g
grown_trees_are_trees (x ∷ []) g = g
grown_trees_are_trees (x ∷ y ∷ older) g =
    let t : IsTree (y ∷ older) = grown_trees_are_trees (y ∷ older) g.1 in
    (may_begin (y ∷ older) x t (omega arith) g.0, t)

-- ---- statements

grown-cons : (x : Segment) (tree : Tree) → IsGrown tree → MayFollow tree x → IsGrown (x ∷ tree)
grown-cons x [] g may = absurd g
grown-cons x (y ∷ older) g may = (may, g)

-- a symbol that was used has its first segment below the root
first_is : (place : Option ℕ) (n first : ℕ) → ((i : ℕ) → place ≡ Some i → i < n) → option_map (λ i. i + 2) place ≡ Some first
    → (2 ≤ first) × (first ≤ n + 1)
first_is None n first within is = cc
first_is (Some i) n first within is =
    let same : i + 2 ≡ first = cc in let low : i < n = within i refl in (omega arith, omega arith)

next_may_follow : (tree : Tree) (symbols : List Name) (symbol : Name) (region : Bool) (found : Option ℕ) → length tree ≡ length symbols + 1
    → first_of symbols symbol ≡ found → MayFollow tree (next_segment tree region found)
next_may_follow tree symbols symbol region (Some first) size is =
    let within : (2 ≤ first) × (first ≤ length symbols + 1) =
    first_is (position (λ x. name_eq x symbol) symbols) (length symbols) first
    (λ i h. (position-Some (λ x. name_eq x symbol) symbols i symbol h).0) is in
    inr (inr (record { first = first; below_root = within.0; earlier = omega arith; parent = refl; region = refl }))
next_may_follow tree symbols symbol true None size is = inr (inl refl)
next_may_follow tree symbols symbol false None size is = inl refl

pub statements_keep_trees_grown : StatementsKeepTreesGrown
unfolding overlaid
statements_keep_trees_grown o symbol region g size =
    grown-cons (next_segment o.tree region (first_of o.symbols symbol)) o.tree g
    (next_may_follow o.tree o.symbols symbol region (first_of o.symbols symbol) size refl)

sizes_stay : (o : Overlays) (symbol : Name) (region : Bool) → length o.tree ≡ length o.symbols + 1
    → length (overlaid o symbol region).tree ≡ length (overlaid o symbol region).symbols + 1
unfolding overlaid
sizes_stay o symbol region size =
    let more : length (o.symbols ++ symbol ∷ []) ≡ length o.symbols + 1 = length-append o.symbols (symbol ∷ []) in omega arith

from_on : (statements : List Statement) (o : Overlays) → IsGrown o.tree → length o.tree ≡ length o.symbols + 1
    → IsGrown (fold (λ o x. overlaid o x.symbol x.region) o statements).tree
from_on [] o g size = g
from_on (x ∷ rest) o g size =
    from_on rest (overlaid o x.symbol x.region) (statements_keep_trees_grown o x.symbol x.region g size) (sizes_stay o x.symbol x.region size)

pub statements_grow_trees : StatementsGrowTrees
statements_grow_trees statements = from_on statements plain refl refl
