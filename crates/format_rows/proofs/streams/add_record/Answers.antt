use Rattle.format_rows.proofs.Reading.{added_record}
use Rattle.format_rows.proofs.streams.add_record.Goals as goal

pub returns-in-Ok-clause-told : goal.returns-in-Ok-clause-told
returns-in-Ok-clause-told g c =
    added_record c.add_copy.result (g.R.RecordSource.list c.args.r.now c.args.s.now) c.args.records.now c.add_copy.new.records c.args.n c.in-Ok.bytes.now
    c.requires.number.0 c.in-Ok.ensures.told c.add_copy.ensures.added
