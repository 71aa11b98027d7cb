use Rattle.link_core.proofs.Stowable.{may_stow}
use Rattle.link_core.proofs.modules.linked_module.Goals as goal

pub returns-clause-stowable : goal.returns-clause-stowable
returns-clause-stowable c = λ name lib kind.
    may_stow c.args.o.now c.args.linked.now.program c.in_ok-member.member c.in_ok-member.ensures.member c.in_ok-member.ensures.stowable name lib kind
