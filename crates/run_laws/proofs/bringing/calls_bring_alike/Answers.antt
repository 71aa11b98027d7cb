-- The law is a lemma on all programs.
use Rattle.run_laws.proofs.BringingAlike.{calls_bring_alike}
use Rattle.run_laws.proofs.bringing.calls_bring_alike.Goals as goal

pub returns : goal.returns
returns c = calls_bring_alike
