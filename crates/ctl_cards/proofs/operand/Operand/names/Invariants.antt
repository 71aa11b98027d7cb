use Rattle.std.proofs.Common.{length}
use Rattle.ctl_cards.proofs.Loops.{NamesSoFar}
use Rattle.ctl_cards.proofs.operand.Operand.names.Given as goal

abbrev pub invariant-loop-names : goal.invariant-loop-names
invariant-loop-names l = NamesSoFar l.fn.self.rest.now l.names l.self.rest.now

abbrev pub decreases-loop-names : goal.decreases-loop-names
decreases-loop-names l = length l.self.rest.now
