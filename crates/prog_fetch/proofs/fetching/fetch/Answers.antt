use Rattle.std.proofs.Common.{rules, ◌≡◌, Err, subst, ◌∙◌}
use Rattle.prog_fetch.specs.Reading.{AnswersAll}
use Rattle.prog_fetch.proofs.Calls.{same_reason, other_reason}
use Rattle.prog_fetch.proofs.Finishing.{answers_some, fault_answers, answer_told}
use Rattle.prog_fetch.proofs.fetching.fetch.Goals as goal

pub returns-in_err-walk-clause-answer : goal.returns-in_err-walk-clause-answer
returns-in_err-walk-clause-answer g c =
    let passed : c.from_residual.result ≡ Err c.in_err-walk.field-0.0 = search rules in
    rw passed (fault_answers c.args.e.now c.args.p.now (g.R.RecordSource.list c.args.r.now c.args.s.now) (g.R.RecordSource.total c.args.r.now)
    (g.R.RecordSource.lengths c.args.r.now) c.in_err-walk.field-0.0 (g.met.R.RecordSource.agrees c.args.r.now c.args.s.now) c.in_err-walk.ensures.fault)

pub returns-in_err-walk-clause-told : goal.returns-in_err-walk-clause-told
returns-in_err-walk-clause-told g c =
    let passed : c.from_residual.result ≡ Err c.in_err-walk.field-0.0 = search rules in
    rw passed (answer_told c.args.e.now c.args.p.now (g.R.RecordSource.list c.args.r.now c.args.s.now) (g.R.RecordSource.total c.args.r.now) (Err c.in_err-walk.field-0.0)
    (fault_answers c.args.e.now c.args.p.now (g.R.RecordSource.list c.args.r.now c.args.s.now) (g.R.RecordSource.total c.args.r.now)
    (g.R.RecordSource.lengths c.args.r.now) c.in_err-walk.field-0.0 (g.met.R.RecordSource.agrees c.args.r.now c.args.s.now) c.in_err-walk.ensures.fault))

pub returns-in_err-walk-clause-reason : goal.returns-in_err-walk-clause-reason
returns-in_err-walk-clause-reason g c =
    let passed : c.from_residual.result ≡ Err c.in_err-walk.field-0.0 = search rules in
    same_reason _ _ c.read.result _ c.in_err-walk.field-0.0 c.in_err-walk.was passed c.read.ensures.reason

pub returns-clause-answer : goal.returns-clause-answer
returns-clause-answer g c =
    answers_some c.args.e.now c.args.p.now (g.R.RecordSource.list c.args.r.now c.args.s.now) (g.R.RecordSource.total c.args.r.now)
    (g.R.RecordSource.lengths c.args.r.now) c.in_ok-walk.walk c.in_ok-walk.parts c.finish.result (g.met.R.RecordSource.agrees c.args.r.now c.args.s.now)
    c.in_ok-walk.ensures.read
    (subst (λ n. AnswersAll c.args.e.now c.args.p.now c.in_ok-walk.walk c.in_ok-walk.parts n c.finish.result)
    (c.count.ensures.total ∙ c.in_ok-walk.ensures.stays.records.total) c.finish.ensures.answer)

pub returns-clause-told : goal.returns-clause-told
returns-clause-told g c =
    answer_told c.args.e.now c.args.p.now (g.R.RecordSource.list c.args.r.now c.args.s.now) (g.R.RecordSource.total c.args.r.now) c.finish.result
    (answers_some c.args.e.now c.args.p.now (g.R.RecordSource.list c.args.r.now c.args.s.now) (g.R.RecordSource.total c.args.r.now)
    (g.R.RecordSource.lengths c.args.r.now) c.in_ok-walk.walk c.in_ok-walk.parts c.finish.result (g.met.R.RecordSource.agrees c.args.r.now c.args.s.now)
    c.in_ok-walk.ensures.read
    (subst (λ n. AnswersAll c.args.e.now c.args.p.now c.in_ok-walk.walk c.in_ok-walk.parts n c.finish.result)
    (c.count.ensures.total ∙ c.in_ok-walk.ensures.stays.records.total) c.finish.ensures.answer))

pub returns-clause-reason : goal.returns-clause-reason
returns-clause-reason g c = other_reason _ _ c.finish.result c.in_ok-walk.ensures.reason c.finish.ensures.read
