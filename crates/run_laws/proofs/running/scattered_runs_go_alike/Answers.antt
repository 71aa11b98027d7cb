-- The law is a lemma on all programs.
use Rattle.run_laws.proofs.ScatteredRuns.{scattered_runs_go_alike}
use Rattle.run_laws.proofs.running.scattered_runs_go_alike.Goals as goal

pub returns : goal.returns
returns c = scattered_runs_go_alike
