use Rattle.prog_fetch.proofs.Calls.{shown_reason}
use Rattle.prog_fetch.proofs.Heads.{text_on, text_counted, laid_of}
use Rattle.prog_fetch.proofs.Records.{fault_on}
use Rattle.prog_fetch.proofs.reading.take_text.Goals as goal

pub judge_text-requires-clause-laid : goal.judge_text-requires-clause-laid
judge_text-requires-clause-laid g c =
    laid_of c.args.task.now.entry.now (g.R.RecordSource.list c.args.r.now c.args.s.now) (g.R.RecordSource.total c.args.r.now) c.args.task.now.placement.now
    c.args.walk.now c.args.parts.now c.requires.text

pub returns-in-Ok-clause-text : goal.returns-in-Ok-clause-text
returns-in-Ok-clause-text g c =
    text_on c.judge_text.result c.args.task.now.entry.now (g.R.RecordSource.list c.args.r.now c.args.s.now) (g.R.RecordSource.total c.args.r.now) c.args.number
    c.args.task.now.placement.now c.args.walk.now c.judge_text.new.walk c.args.parts.now c.judge_text.new.parts c.in-Ok.bytes.now
    c.requires.text c.requires.on c.requires.number c.requires.more c.in-Ok.ensures.told c.judge_text.ensures.laid

pub returns-in-Ok-clause-counted : goal.returns-in-Ok-clause-counted
returns-in-Ok-clause-counted g c =
    text_counted c.judge_text.result c.args.task.now.entry.now (g.R.RecordSource.list c.args.r.now c.args.s.now) (g.R.RecordSource.total c.args.r.now)
    c.args.task.now.placement.now c.args.walk.now c.judge_text.new.walk c.args.parts.now c.judge_text.new.parts c.in-Ok.bytes.now
    c.requires.text c.judge_text.ensures.laid

pub returns-in-Ok-clause-fault : goal.returns-in-Ok-clause-fault
returns-in-Ok-clause-fault g c =
    fault_on c.judge_text.result c.args.task.now.entry.now (g.R.RecordSource.list c.args.r.now c.args.s.now) (g.R.RecordSource.total c.args.r.now) c.args.number
    (g.R.RecordSource.lengths c.args.r.now) c.args.walk.now c.requires.text.0 c.in-Ok.bytes.now (g.met.R.RecordSource.agrees c.args.r.now c.args.s.now)
    c.requires.text.1 c.requires.on c.requires.number c.requires.more c.in-Ok.ensures.told c.judge_text.ensures.fault

pub returns-in-Ok-clause-reason : goal.returns-in-Ok-clause-reason
returns-in-Ok-clause-reason g c =
    let cause = rw c.in-Ok.is at c.record.follows.holds-at-none.2 in
    shown_reason _ _ c.args.task.now.entry.now c.args.walk.now c.in-Ok.bytes.now c.judge_text.result (record { records = cause.0; store = cause.1 }) c.judge_text.ensures.fault

pub judge_text-requires-clause-late : goal.judge_text-requires-clause-late
judge_text-requires-clause-late g c = c.requires.text.3
