use Rattle.std.proofs.Common.{rules, arith}
use Rattle.addr_assign.proofs.Depths.{sizes_bound, above_before, depth_none, depth_past, depth_apart, listed_long, listed_depth, told_low, rounded_small}
use Rattle.addr_assign.proofs.origins.depth.Goals as goal

pub returns-in_default : goal.returns-in_default
returns-in_default c = depth_none c.args.t.now.tree _ c.args.s c.parent.result c.requires.tree c.requires.low c.requires.high c.parent.ensures c.in_default.is

pub of_segment-requires-clause-high : goal.of_segment-requires-clause-high
of_segment-requires-clause-high c =
    let before = above_before c.args.t.now.tree c.args.s c.in-Some.parent c.parent.result c.requires.tree c.requires.low c.requires.high c.parent.ensures c.in-Some.is in
    let few = c.requires.few in
    let high = c.requires.high in omega (arith, before, few, high)

pub round8-requires : goal.round8-requires
round8-requires c =
    let bound = sizes_bound c.args.sizes.now 2199023255552 c.in-Some.parent c.requires.bounded in
    search (rules, bound)

pub of_segment-requires-then-region-clause-high : goal.of_segment-requires-then-region-clause-high
of_segment-requires-then-region-clause-high c =
    let before = above_before c.args.t.now.tree c.args.s c.in-Some.parent c.parent.result c.requires.tree c.requires.low c.requires.high c.parent.ensures c.in-Some.is in
    let long = listed_long _ 1 _ c.args.depths.now c.requires.before in omega (arith, before, long)

pub overflow_add-result : goal.overflow_add-result
overflow_add-result c =
    let before = above_before c.args.t.now.tree c.args.s c.in-Some.parent c.parent.result c.requires.tree c.requires.low c.requires.high c.parent.ensures c.in-Some.is in
    let low = told_low _ c.in-Some.parent c.parent.result c.parent.ensures c.in-Some.is in
    let above = listed_depth c.args.t.now.tree c.args.sizes.now c.args.depths.now _ c.in-Some.parent c.of_segment-then-region.result c.requires.short c.requires.bounded c.requires.before low (omega (arith, before)) c.of_segment-then-region.ensures in
    let size = rounded_small c.of_segment.result c.round8.result (rw (c.of_segment.ensures) (sizes_bound c.args.sizes.now 2199023255552 c.in-Some.parent c.requires.bounded)) c.round8.ensures in
    search (rules, above, size)

pub returns-then-region : goal.returns-then-region
returns-then-region c =
    depth_past c.args.t.now.tree _ c.args.s c.in-Some.parent c.parent.result c.region.result c.region-2.result c.of_segment.result c.round8.result c.of_segment-then-region.result c.args.depths.now
    c.requires.tree c.requires.low c.requires.high c.parent.ensures c.in-Some.is c.region.ensures c.region-2.ensures c.if-region.true c.of_segment.ensures c.round8.ensures c.requires.before c.of_segment-then-region.ensures

pub returns-else-region : goal.returns-else-region
returns-else-region c =
    depth_apart c.args.t.now.tree _ c.args.s c.in-Some.parent c.parent.result c.region.result c.region-2.result
    c.requires.tree c.requires.low c.requires.high c.parent.ensures c.in-Some.is c.region.ensures c.region-2.ensures c.if-region.false
