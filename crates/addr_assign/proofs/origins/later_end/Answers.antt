use Rattle.std.proofs.Common.{rules, arith}
use Rattle.addr_assign.proofs.Depths.{sizes_bound, listed_long, listed_depth}
use Rattle.addr_assign.proofs.Starts.{end_later, end_same}
use Rattle.addr_assign.proofs.origins.later_end.Goals as goal

pub of_segment-requires-clause-high : goal.of_segment-requires-clause-high
of_segment-requires-clause-high c = let long = listed_long _ 1 _ c.args.depths.now c.requires.depths in let high = c.requires.high in omega (arith, long, high)

pub overflow_add-start : goal.overflow_add-start
overflow_add-start c =
    let below = listed_depth c.args.t.now.tree c.args.sizes.now c.args.depths.now _ c.args.s c.of_segment.result c.requires.short c.requires.bounded c.requires.depths c.requires.low c.requires.high c.of_segment.ensures in
    search (rules, below)

pub overflow_add-start-then-region : goal.overflow_add-start-then-region
overflow_add-start-then-region c =
    let below = listed_depth c.args.t.now.tree c.args.sizes.now c.args.depths.now _ c.args.s c.of_segment.result c.requires.short c.requires.bounded c.requires.depths c.requires.low c.requires.high c.of_segment.ensures in
    let size = sizes_bound c.args.sizes.now 2199023255552 c.args.s c.requires.bounded in
    search (rules, below, size)

pub returns-then-region : goal.returns-then-region
returns-then-region c =
    end_later c.args.t.now.tree c.args.sizes.now c.args.depths.now c.args.start c.args.region c.args.s c.region.result c.of_segment.result c.of_segment-then-region.result c.args.end c.greater.result
    c.requires.low c.requires.high c.requires.depths c.region.ensures c.if-region.true c.of_segment.ensures c.of_segment-then-region.ensures c.requires.before c.greater.ensures

pub returns-else-region : goal.returns-else-region
returns-else-region c = end_same c.args.t.now.tree _ c.args.start c.args.region c.args.s c.region.result c.args.end c.requires.low c.region.ensures c.if-region.false c.requires.before
