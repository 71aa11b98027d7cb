use Rattle.std.proofs.Common.{sym, ◌∙◌, ap, Some}
use Rattle.obj_read.specs.Facts.{has_esdid}
use Rattle.obj_read.proofs.Positions.{find_of_position, find_of_no_position}
use Rattle.obj_read.proofs.dictionary.Dictionary.find.Goals as goal

pub returns-in-Some-clause-found : goal.returns-in-Some-clause-found
returns-in-Some-clause-found c = (
  find_of_position (has_esdid c.args.esdid) c.args.self.now c.in-Some.number (sym c.in-Some.ensures.number) ∙ c.at.ensures.item,
  sym c.in-Some.ensures.number ∙ ap Some (sym c.at.ensures.number),
)

pub returns-in-None-clause-found : goal.returns-in-None-clause-found
returns-in-None-clause-found c = (find_of_no_position (has_esdid c.args.esdid) c.args.self.now (sym c.in-None.ensures.number), sym c.in-None.ensures.number)
