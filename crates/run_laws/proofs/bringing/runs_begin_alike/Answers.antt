-- The law is a lemma on all programs.
use Rattle.run_laws.proofs.BegunRuns.{runs_begin_alike}
use Rattle.run_laws.proofs.bringing.runs_begin_alike.Goals as goal

pub returns : goal.returns
returns c = runs_begin_alike
