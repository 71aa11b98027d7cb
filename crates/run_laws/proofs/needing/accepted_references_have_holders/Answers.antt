-- The law is a lemma on all programs.
use Rattle.run_laws.proofs.AcceptedReferences.{accepted_references_have_holders}
use Rattle.run_laws.proofs.needing.accepted_references_have_holders.Goals as goal

pub returns : goal.returns
returns c = accepted_references_have_holders
