use Rattle.std.proofs.Common.{◌≤◌, arith, sym}
use Rattle.addr_assign.proofs.Starts.{pushed, start_none, start_small, end_small, start_next}
use Rattle.addr_assign.proofs.origins.region_starts.Goals as goal

pub loop-region-init : goal.loop-region-init
loop-region-init c = (c.new-starts.ensures.items, sym (start_none c.args.t.now.tree _))

pub greatest_end-requires-clause-start : goal.greatest_end-requires-clause-start
greatest_end-requires-clause-start c =
    let low = c.loop-region-test.true in
    start_small c.args.t.now.tree c.args.sizes.now c.loop-region.region c.loop-region.start c.requires.short c.requires.bounded (omega (arith, low)) c.loop-region.invariant.1

pub round8-requires : goal.round8-requires
round8-requires c =
    let low = c.loop-region-test.true in
    let start = start_small c.args.t.now.tree c.args.sizes.now c.loop-region.region c.loop-region.start c.requires.short c.requires.bounded (omega (arith, low)) c.loop-region.invariant.1 in
    let small : c.greatest_end.result ≤ 9007199254740992 = end_small c.args.t.now.tree c.args.sizes.now c.loop-region.start c.loop-region.region c.greatest_end.result c.requires.short c.requires.bounded start c.greatest_end.ensures in
    omega (arith, small)

pub loop-region-preserved : goal.loop-region-preserved
loop-region-preserved c = (
  pushed _ 0 c.loop-region.region c.loop-region.region c.loop-region.start c.loop-region.starts.items c.push.new.self.items c.loop-region.invariant.0 (omega arith) c.loop-region.invariant.1 c.in_ok-push.ensures.items,
  start_next c.args.t.now.tree _ c.loop-region.region c.loop-region.start c.greatest_end.result c.round8.result c.greater-start.result c.loop-region.invariant.1 c.greatest_end.ensures c.round8.ensures c.greater-start.ensures,
)
