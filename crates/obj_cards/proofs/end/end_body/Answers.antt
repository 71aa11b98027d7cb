use Rattle.std.proofs.Common.{◌∙◌, ap, drop, refl}
use Rattle.obj_cards.proofs.EndLaws.{name_over, name_after, length_over}
use Rattle.obj_cards.proofs.end.end_body.Goals as goal

pub put_length-requires : goal.put_length-requires
put_length-requires c = ap (drop 12) (name_over _ c.args.name.now c.args.name.now c.place.ensures refl c.requires) ∙ name_after c.args.name.now c.requires

pub returns : goal.returns
returns c = length_over c.place.new.into _ c.args.name.now c.args.size (name_over _ c.args.name.now c.args.name.now c.place.ensures refl c.requires) c.requires c.put_length.ensures
