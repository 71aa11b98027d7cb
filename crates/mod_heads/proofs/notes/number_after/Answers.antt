use Rattle.mod_heads.proofs.Summed.{after_near}
use Rattle.mod_heads.proofs.notes.number_after.Goals as goal

pub returns-clause-number : goal.returns-clause-number
returns-clause-number c = after_near c.args.number c.args.records
