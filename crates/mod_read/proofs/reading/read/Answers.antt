use Rattle.std.proofs.Common.{[], sym, subst}
use Rattle.mod_read.specs.Answers.{HasRead}
use Rattle.mod_read.proofs.Steps.{none_read}
use Rattle.mod_read.proofs.reading.read.Goals as goal

pub loop-before-init : goal.loop-before-init
loop-before-init c =
    subst (λ texts. HasRead c.args.e.now [] c.new-walk.result texts) (sym c.new-texts.ensures) (none_read c.args.e.now c.new-walk.result (c.new-walk.ensures.walked c.args.e.now))
