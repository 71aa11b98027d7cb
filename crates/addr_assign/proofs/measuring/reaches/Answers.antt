use Rattle.addr_assign.proofs.Sized.{segment_inside, reach_small, reach_next}
use Rattle.addr_assign.proofs.measuring.reaches.Goals as goal

pub put-requires-clause-high : goal.put-requires-clause-high
put-requires-clause-high c =
    segment_inside c.args.t.now.tree c.args.sections.now _ c.loop-x.reaches.items c.loop-x.x-index _ c.x-item.result c.requires.in_tree c.loop-x.invariant c.loop-x-test.true c.x-item.is

pub put-requires-clause-bounded : goal.put-requires-clause-bounded
put-requires-clause-bounded c =
    reach_small c.args.t.now.tree c.args.sections.now c.loop-x.reaches.items c.loop-x.x-index _ c.x-item.result c.count-count.ensures.small.few_segments c.requires.sound c.requires.few c.requires.in_tree c.loop-x.invariant c.loop-x-test.true c.x-item.is

pub loop-x-preserved : goal.loop-x-preserved
loop-x-preserved c =
    reach_next c.args.t.now.tree c.args.sections.now c.loop-x.reaches.items c.put.new.reaches.items c.loop-x.x-index _ c.x-item.result c.requires.in_tree c.loop-x.invariant c.loop-x-test.true c.x-item.is c.put.ensures
