use Rattle.std.proofs.Common.{◌+◌}
use Rattle.member_model.specs.Written.{note_record_count}
use Rattle.mod_heads.proofs.Recorded.{notes_fit, notes_whole}
use Rattle.mod_heads.proofs.notes.note_records.Goals as goal

pub put_records-requires-clause-items : goal.put_records-requires-clause-items
put_records-requires-clause-items c =
    notes_fit c.args.list.now (c.args.before + note_record_count c.args.list.now + 1) c.args.counts.now c.in_ok-bytes.bytes.items c.as_slice.result.now
    c.in_ok-bytes.ensures.few c.in_ok-bytes.ensures.items c.as_slice.ensures.value

pub returns-clause-records : goal.returns-clause-records
returns-clause-records c = λ segs each.
    notes_whole c.args.list.now c.args.before c.args.counts.now c.in_ok-bytes.bytes.items c.as_slice.result.now c.new-records.result c.put_records.new.records
    c.in_ok-bytes.ensures.items c.as_slice.ensures.value c.new-records.ensures c.in_ok-put_records.ensures.records segs each
