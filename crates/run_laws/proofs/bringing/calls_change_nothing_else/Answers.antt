-- The law is a lemma on all programs.
use Rattle.run_laws.proofs.ChangedBytes.{calls_change_nothing_else}
use Rattle.run_laws.proofs.bringing.calls_change_nothing_else.Goals as goal

pub returns : goal.returns
returns c = calls_change_nothing_else
