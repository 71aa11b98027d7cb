use Rattle.std.proofs.Common.{arith}
use Rattle.format_rows.proofs.Reading.{all_read}
use Rattle.format_rows.proofs.streams.read_each.Goals as goal

pub returns-clause-told : goal.returns-clause-told
returns-clause-told g c =
    all_read (g.R.RecordSource.list c.args.r.now c.args.s.now) (g.R.RecordSource.total c.args.r.now) c.loop-before.before (g.R.RecordSource.lengths c.args.r.now) c.loop-before.records
    (g.met.R.RecordSource.agrees c.args.r.now c.args.s.now)
    (omega (arith, c.loop-before-test.false, c.count-before-end.ensures.total))
    c.loop-before.invariant.told
