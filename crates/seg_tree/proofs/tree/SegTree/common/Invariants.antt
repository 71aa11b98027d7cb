use Rattle.std.proofs.Common.{◌≡◌, [], ◌∷◌}
use Rattle.linking_model.specs.Tree.{lowest_common}
use Rattle.seg_tree.proofs.tree.SegTree.common.Given as goal

-- going up changes nothing
abbrev pub invariant-loop-on : goal.invariant-loop-on
invariant-loop-on l = lowest_common l.self.tree (l.on ∷ l.b ∷ []) ≡ lowest_common l.self.tree (l.a ∷ l.b ∷ [])

abbrev pub decreases-loop-on : goal.decreases-loop-on
decreases-loop-on l = l.on
