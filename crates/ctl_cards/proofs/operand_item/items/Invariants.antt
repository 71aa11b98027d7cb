use Rattle.std.proofs.Common.{length}
use Rattle.ctl_cards.proofs.Loops.{ItemsSoFar}
use Rattle.ctl_cards.proofs.operand_item.items.Given as goal

abbrev pub invariant-loop-alloc : goal.invariant-loop-alloc
invariant-loop-alloc g l = ItemsSoFar g.T.OperandItem.form g.T.OperandItem.item g.T.OperandItem.formed l.fn.operand.rest.now l.items l.operand.rest.now

abbrev pub decreases-loop-alloc : goal.decreases-loop-alloc
decreases-loop-alloc g l = length l.operand.rest.now
