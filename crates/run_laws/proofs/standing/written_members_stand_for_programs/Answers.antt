-- The law is a lemma on all programs.
use Rattle.run_laws.proofs.StandingMembers.{written_members_stand_for_programs}
use Rattle.run_laws.proofs.standing.written_members_stand_for_programs.Goals as goal

pub returns : goal.returns
returns c = written_members_stand_for_programs
