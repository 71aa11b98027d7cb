use Rattle.std.proofs.Common.{rules, arith}
use Rattle.addr_assign.proofs.Depths.{listed_long, listed_depth}
use Rattle.addr_assign.proofs.Starts.{listed_start, region_listed, origin_listed}
use Rattle.addr_assign.proofs.origins.origin.Goals as goal

pub bounds-starts-region : goal.bounds-starts-region
bounds-starts-region c = region_listed c.args.t.now.tree _ c.args.starts.now c.args.s c.region.result c.requires.tree c.requires.small c.requires.low c.requires.high c.requires.starts c.region.ensures

pub of_segment-requires-clause-high : goal.of_segment-requires-clause-high
of_segment-requires-clause-high c = let long = listed_long _ 1 _ c.args.depths.now c.requires.depths in let high = c.requires.high in omega (arith, long, high)

pub overflow_add-result : goal.overflow_add-result
overflow_add-result c =
    let below = listed_depth c.args.t.now.tree c.args.sizes.now c.args.depths.now _ c.args.s c.of_segment.result c.requires.small.few_segments c.requires.bounded c.requires.depths c.requires.low c.requires.high c.of_segment.ensures in
    let start = listed_start c.args.t.now.tree c.args.sizes.now c.args.starts.now c.args.s c.region.result 0 c.requires.tree c.requires.small c.requires.bounded c.requires.low c.requires.high c.requires.starts c.region.ensures in
    search (rules, below, start.1)

pub returns : goal.returns
returns c =
    let start = listed_start c.args.t.now.tree c.args.sizes.now c.args.starts.now c.args.s c.region.result 0 c.requires.tree c.requires.small c.requires.bounded c.requires.low c.requires.high c.requires.starts c.region.ensures in
    origin_listed c.args.t.now.tree _ c.args.s _ c.of_segment.result c.args.depths.now c.requires.low c.requires.high start.0 c.requires.depths c.of_segment.ensures
