use Rattle.std.proofs.Common.{map, string_bytes}
use Rattle.command_sets.proofs.Statuses.{some_so, printed_files}
use Rattle.command_sets.proofs.ending.carry_out.Goals as goal

pub returns-in-Ok-clause-files : goal.returns-in-Ok-clause-files
returns-in-Ok-clause-files g c files told =
    some_so (g.S.Store.told c.put.new.store) (c.in-Ok.ensures.told files told)
    (λ now held. printed_files (map string_bytes c.args.request.now.words.now) files now c.args.answer.now c.printed.result c.requires.status c.printed.ensures.status held)
