-- The law is a lemma on all programs.
use Rattle.run_laws.proofs.ResidentPaths.{calls_keep_paths}
use Rattle.run_laws.proofs.staying.calls_keep_paths.Goals as goal

pub returns : goal.returns
returns c = calls_keep_paths
