use Rattle.ctl_cards.proofs.WalkLaws.{item_from_name}
use Rattle.ctl_cards.proofs.Places.{stops_there}
use Rattle.ctl_cards.proofs.Faults.{bad_place}
use Rattle.ctl_cards.proofs.CardLaws.{text_more}
use Rattle.ctl_cards.proofs.Lowered.{fits, lifted, sound}
use Rattle.ctl_cards.proofs.operand_item.NameOperandItem.read.Goals as goal

pub returns : goal.returns
returns c = item_from_name c.args.operand.now.rest.now c.name.result c.name.new.self.rest.now c.name.ensures
