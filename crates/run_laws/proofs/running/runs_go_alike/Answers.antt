-- The law is a lemma on all programs.
use Rattle.run_laws.proofs.BlockRuns.{runs_go_alike}
use Rattle.run_laws.proofs.running.runs_go_alike.Goals as goal

pub returns : goal.returns
returns c = runs_go_alike
