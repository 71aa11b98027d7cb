use Rattle.std.proofs.Common.{◌≡◌, Err, rules}
use Rattle.prog_fetch.proofs.Finishing.{ends_answers, ends_other, misfit_answers, misfit_other, loaded_answers}
use Rattle.prog_fetch.proofs.loading.finish.Goals as goal

pub returns-in_err-judge_end-clause-answer : goal.returns-in_err-judge_end-clause-answer
returns-in_err-judge_end-clause-answer c =
    let passed : c.from_residual.result ≡ Err c.in_err-judge_end.field-0.0 = search rules in
    rw passed (ends_answers (Unit {0}) c.args.task.now.entry.now c.args.task.now.placement.now c.args.walk c.args.parts c.args.count c.in_err-judge_end.field-0.0 c.in_err-judge_end.ensures)

pub returns-in_err-judge_end-clause-read : goal.returns-in_err-judge_end-clause-read
returns-in_err-judge_end-clause-read c =
    let passed : c.from_residual.result ≡ Err c.in_err-judge_end.field-0.0 = search rules in
    rw passed (ends_other (Unit {0}) c.args.task.now.entry.now c.args.walk c.in_err-judge_end.field-0.0 c.in_err-judge_end.ensures)

pub returns-in_err-judge_placement-clause-answer : goal.returns-in_err-judge_placement-clause-answer
returns-in_err-judge_placement-clause-answer c =
    let passed : c.from_residual-in_err-judge_placement.result ≡ Err c.in_err-judge_placement.field-0.0 = search rules in
    rw passed (misfit_answers (Unit {0}) c.args.task.now.entry.now c.args.task.now.placement.now c.args.walk c.args.parts c.args.count c.in_err-judge_placement.field-0.0
    c.in_ok-judge_end.ensures c.in_err-judge_placement.ensures)

pub returns-in_err-judge_placement-clause-read : goal.returns-in_err-judge_placement-clause-read
returns-in_err-judge_placement-clause-read c =
    let passed : c.from_residual-in_err-judge_placement.result ≡ Err c.in_err-judge_placement.field-0.0 = search rules in
    rw passed (misfit_other (Unit {0}) c.args.task.now.placement.now c.args.walk c.in_err-judge_placement.field-0.0 c.in_err-judge_placement.ensures)

pub returns-in-Ok-clause-answer : goal.returns-in-Ok-clause-answer
returns-in-Ok-clause-answer c =
    loaded_answers c.args.task.now.entry.now c.args.task.now.placement.now c.args.walk c.args.parts c.args.count c.in-Ok.fetched
    c.in_ok-judge_end.ensures c.in_ok-judge_placement.ensures c.in-Ok.ensures
