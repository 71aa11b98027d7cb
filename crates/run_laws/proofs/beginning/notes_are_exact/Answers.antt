-- The law is a lemma on all programs.
use Rattle.run_laws.proofs.StartedMembers.{notes_are_exact}
use Rattle.run_laws.proofs.beginning.notes_are_exact.Goals as goal

pub returns : goal.returns
returns c = notes_are_exact
