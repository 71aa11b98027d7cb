use Rattle.ctl_cards.proofs.Loops.{WordSoFar}
use Rattle.ctl_cards.proofs.operand.Operand.word.Given as goal

abbrev pub invariant-loop-b : goal.invariant-loop-b
invariant-loop-b l = WordSoFar l.word l.fn.self.rest.now l.b-index l.self.rest.now
