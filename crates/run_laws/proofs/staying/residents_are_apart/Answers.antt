-- The law is a lemma on all programs.
use Rattle.run_laws.proofs.ResidentPaths.{residents_are_apart}
use Rattle.run_laws.proofs.staying.residents_are_apart.Goals as goal

pub returns : goal.returns
returns c = residents_are_apart
