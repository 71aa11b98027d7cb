use Rattle.std.proofs.Common.{arith}
use Rattle.mod_parts.proofs.Numbered.{count_within}
use Rattle.mod_parts.proofs.numbers.count_parts.Goals as goal

pub overflow_cast-count : goal.overflow_cast-count
overflow_cast-count c =
    omega (
      arith,
      count_within c.args.segments.now c.loop-parts.parts-index c.parts-item.result c.loop-parts-test.true c.parts-item.is,
      c.len.ensures,
      c.requires,
    )

pub overflow_add-count : goal.overflow_add-count
overflow_add-count c =
    omega (
      arith,
      count_within c.args.segments.now c.loop-parts.parts-index c.parts-item.result c.loop-parts-test.true c.parts-item.is,
      c.len.ensures,
      c.requires,
      c.loop-parts.invariant,
    )
