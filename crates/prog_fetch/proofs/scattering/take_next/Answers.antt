use Rattle.std.proofs.Common.{Err}
use Rattle.prog_fetch.specs.declared.fault.ScatterFault.TheVariants.{ReadFault}
use Rattle.prog_fetch.proofs.Heading.{next_on, heads_on, heads_counted, any_answers}
use Rattle.prog_fetch.proofs.ScatterCalls.{other_reason}
use Rattle.prog_fetch.proofs.scattering.take_next.Goals as goal

pub returns-in-Ok-clause-heads : goal.returns-in-Ok-clause-heads
returns-in-Ok-clause-heads g c =
    heads_on c.args.task.now.entry.now (g.R.RecordSource.list c.args.r.now c.args.s.now) (g.R.RecordSource.total c.args.r.now) c.args.number
    c.args.walk.now c.judge.new.walk c.in-Ok.bytes.now c.judge.result c.requires.heads c.requires.number c.requires.more c.in-Ok.ensures.told c.judge.ensures.on

pub returns-in-Ok-clause-counted : goal.returns-in-Ok-clause-counted
returns-in-Ok-clause-counted g c =
    heads_counted c.args.task.now.entry.now (g.R.RecordSource.list c.args.r.now c.args.s.now) (g.R.RecordSource.total c.args.r.now)
    c.args.walk.now c.judge.new.walk c.in-Ok.bytes.now c.judge.result c.requires.heads c.judge.ensures.on

pub returns-in-Ok-clause-answer : goal.returns-in-Ok-clause-answer
returns-in-Ok-clause-answer g c =
    next_on c.args.task.now.entry.now c.args.task.now.areas.now (g.R.RecordSource.list c.args.r.now c.args.s.now) (g.R.RecordSource.total c.args.r.now) c.args.number
    (g.R.RecordSource.lengths c.args.r.now) c.args.walk.now c.in-Ok.bytes.now c.judge.result (g.met.R.RecordSource.agrees c.args.r.now c.args.s.now)
    c.requires.heads c.requires.number c.requires.more c.in-Ok.ensures.told c.judge.ensures.answer

pub returns-in-Ok-clause-reason : goal.returns-in-Ok-clause-reason
returns-in-Ok-clause-reason g c =
    let cause = rw c.in-Ok.is at c.record.follows.holds-at-none.2 in
    other_reason _ _ c.judge.result (record { records = cause.0; store = cause.1 }) c.judge.ensures.read

pub returns-in-Err-clause-answer : goal.returns-in-Err-clause-answer
returns-in-Err-clause-answer g c =
    any_answers c.args.task.now.entry.now c.args.task.now.areas.now (g.R.RecordSource.list c.args.r.now c.args.s.now) (g.R.RecordSource.total c.args.r.now)
    (g.R.RecordSource.lengths c.args.r.now) (Err ReadFault) (g.met.R.RecordSource.agrees c.args.r.now c.args.s.now) (λ records. tt)
