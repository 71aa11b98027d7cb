use Rattle.seg_tree.proofs.Growing.{next_is_tree, next_is_small}
use Rattle.seg_tree.proofs.tree.SegTree.next.Goals as goal

pub returns-clause-tree : goal.returns-clause-tree
returns-clause-tree c =
    next_is_tree c.args.self.now c.args.point.now c.args.region _ _ c.first_of.ensures c.next_segment.ensures
    c.count-current.ensures.tree c.count-current.ensures.symbols

pub returns-clause-small : goal.returns-clause-small
returns-clause-small c =
    next_is_small c.args.self.now c.args.point.now c.args.region _ _ c.first_of.ensures c.next_segment.ensures
    c.count-current.ensures.tree c.count-current.ensures.symbols c.count-current.ensures.small c.requires
