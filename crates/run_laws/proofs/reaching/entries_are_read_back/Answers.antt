-- The law is a lemma on all programs.
use Rattle.run_laws.proofs.EntriesBack.{entries_are_read_back}
use Rattle.run_laws.proofs.reaching.entries_are_read_back.Goals as goal

pub returns : goal.returns
returns c = entries_are_read_back
