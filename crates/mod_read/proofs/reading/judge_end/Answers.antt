use Rattle.std.proofs.Common.{ap, ◌∙◌}
use Rattle.member_walk.specs.Told.{fault_told}
use Rattle.mod_read.proofs.Steps.{ends_with}
use Rattle.mod_read.proofs.reading.judge_end.Goals as goal

pub returns-in-Ok : goal.returns-in-Ok
returns-in-Ok c = λ records walked.
    ends_with c.args.e.now c.args.walk.now (fault_told c.finish.result) c.ended.result c.ended.ensures c.finish.ensures records walked
    ∙ ap fault_told c.in-Ok.is

pub returns-in-Err : goal.returns-in-Err
returns-in-Err c = λ records walked.
    ends_with c.args.e.now c.args.walk.now (fault_told c.finish.result) c.ended.result c.ended.ensures c.finish.ensures records walked
    ∙ ap fault_told c.in-Err.is
