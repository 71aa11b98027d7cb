use Rattle.load_recs.specs.Records.{record_of}
use Rattle.member_checks.proofs.Reading.{is_read, few_items}
use Rattle.member_checks.proofs.heads.head_of.Goals as goal

pub returns-in-Ok : goal.returns-in-Ok
returns-in-Ok c =
    let read = is_read c.args.bytes.now (record_of c.in-Ok.held) c.in-Ok.ensures.exact in
    (read.0, read.1, few_items (record_of c.in-Ok.held) c.in-Ok.ensures.found.1)
