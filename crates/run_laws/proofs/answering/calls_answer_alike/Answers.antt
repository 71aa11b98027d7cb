-- The law is a lemma on all programs.
use Rattle.run_laws.proofs.BlockRuns.{calls_answer_alike}
use Rattle.run_laws.proofs.answering.calls_answer_alike.Goals as goal

pub returns : goal.returns
returns c = calls_answer_alike
