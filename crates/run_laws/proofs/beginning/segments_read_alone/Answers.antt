-- The law is a lemma on all programs.
use Rattle.run_laws.proofs.ReadAlone.{segments_read_alone}
use Rattle.run_laws.proofs.beginning.segments_read_alone.Goals as goal

pub returns : goal.returns
returns c = segments_read_alone
