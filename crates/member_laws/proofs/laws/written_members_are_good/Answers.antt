-- The law is a lemma on all records.
use Rattle.member_laws.proofs.Good.{written_members_are_good}
use Rattle.member_laws.proofs.laws.written_members_are_good.Goals as goal

pub returns : goal.returns
returns c = written_members_are_good
