use Rattle.std.proofs.Common.{length}
use Rattle.obj_cards.proofs.RldLaws.{ReadSoFar}
use Rattle.obj_cards.proofs.rld.read_items.Given as goal

abbrev pub invariant-loop-rest : goal.invariant-loop-rest
invariant-loop-rest l = ReadSoFar l.card.items l.count l.shared l.rest l.bytes

abbrev pub decreases-loop-rest : goal.decreases-loop-rest
decreases-loop-rest l = length l.rest
