-- The law is a lemma on all programs.
use Rattle.run_laws.proofs.BlockRuns.{calls_reach_symbols}
use Rattle.run_laws.proofs.running.calls_reach_symbols.Goals as goal

pub returns : goal.returns
returns c = calls_reach_symbols
