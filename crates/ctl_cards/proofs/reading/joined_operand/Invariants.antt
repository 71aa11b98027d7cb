use Rattle.ctl_cards.proofs.CardLaws.{TextSoFar}
use Rattle.ctl_cards.proofs.reading.joined_operand.Given as goal

abbrev pub invariant-loop-card : goal.invariant-loop-card
invariant-loop-card l = TextSoFar l.first l.more l.text.items l.card-index
