use Rattle.std.proofs.Common.{◌∙◌, ap}
use Rattle.obj_cards.proofs.Laying.{over, over_start}
use Rattle.obj_cards.proofs.txt.pad.Goals as goal

pub returns : goal.returns
returns c = c.place.ensures ∙ ap (over 0 c.args.text.now) c.requires.zeros ∙ over_start 0 56 c.args.text.now
