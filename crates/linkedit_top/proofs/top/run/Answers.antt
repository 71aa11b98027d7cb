use Rattle.std.proofs.Common.{map, string_bytes, subst, ◌∙◌}
use Rattle.std.specs.Prelude.{IsSomeAnd}
use Rattle.command_sets.specs.Causes.{FilesAfter}
use Rattle.linkedit_top.proofs.top.run.Goals as goal

pub returns-in-Ok-clause-files : goal.returns-in-Ok-clause-files
returns-in-Ok-clause-files g c files told =
    subst (λ a. IsSomeAnd (g.S.Store.told c.carry_out.new.store) (λ now. FilesAfter (map string_bytes c.args.request.now.words.now) files now a c.carry_out.result))
    (c.in-Ok.ensures.answer files told) (c.carry_out.ensures.files files (c.answer.ensures.told ∙ told))
