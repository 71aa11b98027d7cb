use Rattle.std.proofs.Common.{◌∙◌, sym, refl, true, Some}
use Rattle.std.specs.HashMap.{get}
use Rattle.le_bytes.specs.Names.{name_eq}
use Rattle.esd_lists.proofs.Gather.{on_ok, first_there, first_put}
use Rattle.esd_lists.proofs.numbering.note_number.Goals as goal

pub returns-then-contains_key : goal.returns-then-contains_key
returns-then-contains_key c = λ y. first_there true (Some c.args.number) c.args.name y (get name_eq c.args.numbers.now) (sym c.contains_key.ensures ∙ c.if-contains_key.true)

pub returns : goal.returns
returns c = on_ok c.put.result _ _ c.put.ensures (λ h y. first_put true (Some c.args.number) c.args.name y c.args.number (get name_eq c.args.numbers.now) (get name_eq c.put.new.map y) refl refl (sym c.contains_key.ensures ∙ c.if-contains_key.false) (h y))
