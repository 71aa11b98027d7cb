-- The law is a lemma on all programs.
use Rattle.run_laws.proofs.ResidentPaths.{root_is_resident}
use Rattle.run_laws.proofs.staying.root_is_resident.Goals as goal

pub returns : goal.returns
returns c = root_is_resident
