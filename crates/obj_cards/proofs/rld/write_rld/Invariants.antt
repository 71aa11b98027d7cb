use Rattle.obj_cards.proofs.RldLaws.{SpelledSoFar}
use Rattle.obj_cards.proofs.rld.write_rld.Given as goal

abbrev pub invariant-loop-item : goal.invariant-loop-item
invariant-loop-item l = SpelledSoFar l.body l.end l.omitted l.item-index l.items
