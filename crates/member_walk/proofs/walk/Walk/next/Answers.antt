use Rattle.std.proofs.Common.{◌∷◌, [], ◌++◌, sym, subst}
use Rattle.member_walk.specs.Walked.{IsWalked}
use Rattle.member_walk.specs.Told.{IsFirstFault}
use Rattle.member_walk.proofs.Walking.{goes_on, shows_first}
use Rattle.member_walk.proofs.walk.Walk.next.Goals as goal

pub returns-in-Ok-clause-walked : goal.returns-in-Ok-clause-walked
returns-in-Ok-clause-walked c = λ records walked.
    subst (IsWalked c.args.e.now (records ++ c.args.bytes.now ∷ [])) (sym c.in-Ok.ensures.1)
    (goes_on c.args.e.now records c.args.bytes.now c.replace-walk.result
    (subst (IsWalked c.args.e.now records) (sym c.replace-walk.ensures.value) walked) c.in-Ok.ensures.0)

pub returns-in-Err-clause-fault : goal.returns-in-Err-clause-fault
returns-in-Err-clause-fault c =
    subst (λ w. IsFirstFault c.args.e.now w c.args.bytes.now c.in-Err.fault) c.replace-walk.ensures.value
    (shows_first c.args.e.now c.replace-walk.result c.args.bytes.now c.in-Err.fault c.in-Err.ensures)
