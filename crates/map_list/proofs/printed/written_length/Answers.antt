use Rattle.std.proofs.Common.{arith}
use Rattle.map_list.proofs.Names.{blank_follows, mark_follows}
use Rattle.map_list.proofs.printed.written_length.Goals as goal
use Rattle.map_list.proofs.printed.written_length.Goals.{then-c-ne32, else-c-ne32}

pub loop-i-preserved : goal.loop-i-preserved
loop-i-preserved c = elim c.if-c-ne32.branch [
  | then-c-ne32 w ↦ (rw w.written-is (mark_follows c.args.text.now c.loop-i.i c.loop-i-test.true w.if-c-ne32.true), omega arith)
  | else-c-ne32 w ↦ (rw w.written-is (blank_follows c.args.text.now c.loop-i.i c.loop-i.written c.loop-i-test.true w.if-c-ne32.false c.loop-i.invariant.0), omega arith)
]
