-- The law is a lemma on all programs.
use Rattle.run_laws.proofs.ChangedBytes.{new_segments_are_linked}
use Rattle.run_laws.proofs.bringing.new_segments_are_linked.Goals as goal

pub returns : goal.returns
returns c = new_segments_are_linked
