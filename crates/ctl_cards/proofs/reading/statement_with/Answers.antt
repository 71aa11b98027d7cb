use Rattle.ctl_cards.proofs.Faults.{bad_place, stop_short}
use Rattle.ctl_cards.proofs.reading.statement_with.Goals as goal

pub overflow_sub-result : goal.overflow_sub-result
overflow_sub-result c = stop_short c.args.operation c.args.text.now c.statement.new.operand.rest.now (rw c.in-Err-Bad.field-0-is at c.in-Err-Bad.ensures)

pub returns-in-Err-Bad : goal.returns-in-Err-Bad
returns-in-Err-Bad c = bad_place c.args.operation c.args.text.now c.statement.new.operand.rest.now (rw c.in-Err-Bad.field-0-is at c.in-Err-Bad.ensures)
