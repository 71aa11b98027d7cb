use Rattle.obj_cards.proofs.EsdLaws.{SpelledItems}
use Rattle.obj_cards.proofs.esd.write_esd.Given as goal

abbrev pub invariant-loop-item : goal.invariant-loop-item
invariant-loop-item l = SpelledItems l.body l.end l.item-index l.items
