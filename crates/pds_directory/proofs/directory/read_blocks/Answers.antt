use Rattle.pds_directory.proofs.Blocks.{block_ended, block_taken, block_bad, no_block_left}
use Rattle.pds_directory.proofs.directory.read_blocks.Goals as goal

pub returns-then-last-clause-gives : goal.returns-then-last-clause-gives
returns-then-last-clause-gives c =
    block_ended c.args.h.now.blocks c.loop-done.done c.args.h.now c.args.image.now c.loop-done.entries.items c.read_block.new.entries.items _
    c.loop-done-test.true (rw c.if-last.true at c.in-Ok.ensures.gives) c.loop-done.invariant.1

pub returns-in-Err-clause-gives : goal.returns-in-Err-clause-gives
returns-in-Err-clause-gives c =
    block_bad c.in-Err.stop c.args.h.now.blocks c.loop-done.done c.args.h.now c.args.image.now c.loop-done.entries.items _
    c.loop-done-test.true c.in-Err.ensures.gives c.loop-done.invariant.1

pub loop-done-preserved : goal.loop-done-preserved
loop-done-preserved c = (
  c.read_block.ensures.ascending,
  block_taken c.args.h.now.blocks c.loop-done.done c.args.h.now c.args.image.now c.loop-done.entries.items c.read_block.new.entries.items _
      c.loop-done-test.true (rw c.if-last.false at c.in-Ok.ensures.gives) c.loop-done.invariant.1,
)

pub returns-clause-gives : goal.returns-clause-gives
returns-clause-gives c =
    no_block_left c.args.h.now.blocks c.loop-done.done c.args.h.now c.args.image.now c.loop-done.entries.items _ c.loop-done-test.false c.loop-done.invariant.1
