-- The law is a lemma on all members.
use Rattle.member_laws.proofs.Members.{written_members_stand}
use Rattle.member_laws.proofs.laws.written_members_stand.Goals as goal

pub returns : goal.returns
returns c = written_members_stand
