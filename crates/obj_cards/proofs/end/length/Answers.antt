use Rattle.obj_cards.proofs.EndLaws.{small_length}
use Rattle.obj_cards.proofs.end.length.Goals as goal

pub returns-then-c-eq0-clause-in_range : goal.returns-then-c-eq0-clause-in_range
returns-then-c-eq0-clause-in_range c = small_length c.args.c.now c.num32.result c.num32.ensures.number c.if-c-eq0.true c.fits-c
