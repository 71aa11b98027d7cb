use Rattle.std.proofs.Common.{ap, ◌∙◌, length}
use Rattle.obj_cards.proofs.Laying.{over, over_two}
use Rattle.obj_cards.proofs.layout.padded_card.Goals as goal

pub returns : goal.returns
returns c = c.place-2.ensures ∙ ap (over (length c.args.head.now) c.args.body.now) c.place.ensures ∙ over_two 64 80 c.args.head.now c.args.body.now
