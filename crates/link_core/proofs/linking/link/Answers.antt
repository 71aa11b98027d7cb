use Rattle.std.proofs.Common.{IfOk, subst}
use Rattle.link_core.specs.Programs.{program_of_cards}
use Rattle.link_core.specs.Linking.{StandFor}
use Rattle.link_core.specs.Modules.{may_be_unresolved}
use Rattle.link_core.proofs.Standing.{all_stand}
use Rattle.link_core.proofs.linking.link.Goals as goal

pub returns-in-Ok-clause-stands : goal.returns-in-Ok-clause-stands
returns-in-Ok-clause-stands c =
    subst (λ cards. IfOk c.one_module.result (StandFor c.args.o.now (program_of_cards cards (may_be_unresolved c.args.o.now)))) c.primary_cards.ensures
    (subst (λ may. IfOk c.one_module.result (StandFor c.args.o.now (program_of_cards c.primary_cards.result.now may))) c.may_be_unresolved.ensures
    (all_stand c.args.o.now c.primary_cards.result.now c.may_be_unresolved.result c.in-Ok.linked c.in-Ok.ensures.0 c.in-Ok.ensures.1 c.one_module.result
    c.one_module.ensures.eight c.one_module.ensures.modules))
