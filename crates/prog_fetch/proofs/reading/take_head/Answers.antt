use Rattle.prog_fetch.proofs.Calls.{shown_reason}
use Rattle.prog_fetch.proofs.Heads.{head_on}
use Rattle.prog_fetch.proofs.Records.{counted_on, fault_on}
use Rattle.prog_fetch.proofs.reading.take_head.Goals as goal

pub returns-in-Ok-clause-head : goal.returns-in-Ok-clause-head
returns-in-Ok-clause-head g c =
    head_on c.judge_head.result c.args.e.now (g.R.RecordSource.list c.args.r.now c.args.s.now) (g.R.RecordSource.total c.args.r.now) c.args.number
    c.args.walk.now c.judge_head.new.walk c.in-Ok.bytes.now c.requires.head c.requires.on c.requires.no_text c.requires.number c.requires.more
    c.in-Ok.ensures.told c.judge_head.ensures.walked

pub returns-in-Ok-clause-counted : goal.returns-in-Ok-clause-counted
returns-in-Ok-clause-counted g c =
    counted_on c.judge_head.result c.args.e.now c.args.walk.now c.judge_head.new.walk c.requires.head.0 c.in-Ok.bytes.now c.requires.head.1.walked
    c.judge_head.ensures.walked

pub returns-in-Ok-clause-fault : goal.returns-in-Ok-clause-fault
returns-in-Ok-clause-fault g c =
    fault_on c.judge_head.result c.args.e.now (g.R.RecordSource.list c.args.r.now c.args.s.now) (g.R.RecordSource.total c.args.r.now) c.args.number
    (g.R.RecordSource.lengths c.args.r.now) c.args.walk.now c.requires.head.0 c.in-Ok.bytes.now (g.met.R.RecordSource.agrees c.args.r.now c.args.s.now)
    c.requires.head.1 c.requires.on c.requires.number c.requires.more c.in-Ok.ensures.told c.judge_head.ensures.fault

pub returns-in-Ok-clause-reason : goal.returns-in-Ok-clause-reason
returns-in-Ok-clause-reason g c =
    let cause = rw c.in-Ok.is at c.record.follows.holds-at-none.2 in
    shown_reason _ _ c.args.e.now c.args.walk.now c.in-Ok.bytes.now c.judge_head.result (record { records = cause.0; store = cause.1 }) c.judge_head.ensures.fault
