-- No other statement is spelled by the same cards, such cards have no fault, and the function of cards gives what is
-- read.
use Rattle.ctl_cards.proofs.Meanings.{due, counted}
use Rattle.ctl_cards.proofs.Unique.{again}
use Rattle.ctl_cards.proofs.reading.read_statement.Goals as goal

pub returns-clause-within : goal.returns-clause-within
returns-clause-within c = counted c.args.cards.now c.statement_on.result c.statement_on.ensures.read

pub returns-clause-again : goal.returns-clause-again
returns-clause-again c = again c.args.cards.now c.statement_on.result c.statement_on.ensures.read c.statement_on.ensures.faults

pub returns-clause-due : goal.returns-clause-due
returns-clause-due c = due c.args.cards.now c.statement_on.result c.statement_on.ensures.read c.statement_on.ensures.faults
