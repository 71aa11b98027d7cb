-- The law is a lemma on all records.
use Rattle.member_laws.proofs.Gathering.{written_records_gather}
use Rattle.member_laws.proofs.laws.written_records_gather.Goals as goal

pub returns : goal.returns
returns c = written_records_gather
