use Rattle.obj_cards.proofs.EsdLaws.{ReadItems}
use Rattle.obj_cards.proofs.esd.read_items.Given as goal

abbrev pub invariant-loop-k : goal.invariant-loop-k
invariant-loop-k l = ReadItems l.items l.k l.count l.rest l.bytes
