-- The law is a lemma on all programs.
use Rattle.run_laws.proofs.BlockRuns.{runs_stay_alike}
use Rattle.run_laws.proofs.running.runs_stay_alike.Goals as goal

pub returns : goal.returns
returns c = runs_stay_alike
