-- The law is a lemma on all programs.
use Rattle.run_laws.proofs.BlockRuns.{events_answer_alike}
use Rattle.run_laws.proofs.answering.events_answer_alike.Goals as goal

pub returns : goal.returns
returns c = events_answer_alike
