-- The law is a lemma on all programs.
use Rattle.run_laws.proofs.StartedMembers.{grown_members_start}
use Rattle.run_laws.proofs.beginning.grown_members_start.Goals as goal

pub returns : goal.returns
returns c = grown_members_start
