-- The law is a lemma on all programs.
use Rattle.run_laws.proofs.BroughtFields.{calls_bring_fields}
use Rattle.run_laws.proofs.bringing.calls_bring_fields.Goals as goal

pub returns : goal.returns
returns c = calls_bring_fields
