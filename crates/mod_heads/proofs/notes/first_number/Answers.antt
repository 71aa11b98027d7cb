use Rattle.std.proofs.Common.{◌+◌, ◌/◌}
use Rattle.mod_heads.proofs.Summed.{first_near}
use Rattle.mod_heads.proofs.notes.first_number.Goals as goal

pub returns-clause-number : goal.returns-clause-number
returns-clause-number c = first_near c.args.before ((c.args.count + 19) / 20)
