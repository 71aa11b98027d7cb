use Rattle.std.proofs.Common.{◌∙◌, sym, ap}
use Rattle.std.specs.Option.{is_some}
use Rattle.obj_read.specs.Facts.{has_esdid}
use Rattle.obj_read.proofs.Positions.{any_of_find}
use Rattle.obj_read.proofs.dictionary.Dictionary.has.Goals as goal

pub returns-in-Some : goal.returns-in-Some
returns-in-Some c = sym (any_of_find (has_esdid c.args.esdid) c.args.self.now ∙ ap (λ o. is_some o) c.in-Some.ensures.found.0)

pub returns-in-None : goal.returns-in-None
returns-in-None c = sym (any_of_find (has_esdid c.args.esdid) c.args.self.now ∙ ap (λ o. is_some o) c.in-None.ensures.found.0)
