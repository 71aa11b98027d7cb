use Rattle.addr_assign.proofs.Sized.{segment_inside}
use Rattle.addr_assign.proofs.Nexts.{next_small, next_step, place_step}
use Rattle.addr_assign.proofs.placing.addresses.Goals as goal

pub take_room-requires-clause-high : goal.take_room-requires-clause-high
take_room-requires-clause-high c =
    segment_inside c.args.t.now.tree c.args.sections.now _ c.loop-x.next.items c.loop-x.x-index _ c.x-item.result c.requires.in_tree c.loop-x.invariant.0 c.loop-x-test.true c.x-item.is

pub take_room-requires-clause-bounded : goal.take_room-requires-clause-bounded
take_room-requires-clause-bounded c =
    next_small c.args.t.now.tree c.args.origins.now c.args.sections.now c.loop-x.next.items c.loop-x.x-index _ c.x-item.result c.count-count.ensures.small.few_segments c.requires.sound c.requires.few c.requires.bounded c.requires.in_tree c.loop-x.invariant.0 c.loop-x-test.true c.x-item.is

pub loop-x-preserved : goal.loop-x-preserved
loop-x-preserved c = (
  next_step c.args.t.now.tree c.args.origins.now c.args.sections.now c.loop-x.next.items c.take_room.new.next.items c.loop-x.x-index _ c.x-item.result c.requires.in_tree c.loop-x.invariant.0 c.loop-x-test.true c.x-item.is c.take_room.ensures.next,
  rw (c.in_ok-push.ensures.items) (place_step c.args.t.now.tree c.args.origins.now c.args.sections.now c.loop-x.next.items c.loop-x.places.items c.loop-x.x-index _ c.x-item.result c.take_room.result c.requires.in_tree c.loop-x.invariant.0 c.loop-x.invariant.1 c.loop-x-test.true c.x-item.is c.take_room.ensures.place),
)
