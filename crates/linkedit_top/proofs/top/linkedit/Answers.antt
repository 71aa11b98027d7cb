use Rattle.std.proofs.Common.{map, string_bytes, subst, sym}
use Rattle.std.specs.Prelude.{IsSomeAnd}
use Rattle.command_sets.specs.Causes.{FilesAfter}
use Rattle.linkedit_top.specs.Outcome.{good_words}
use Rattle.linkedit_top.proofs.Decided.{outcome_good}
use Rattle.linkedit_top.proofs.top.linkedit.Goals as goal

pub returns-in-Ok-clause-files : goal.returns-in-Ok-clause-files
returns-in-Ok-clause-files g c files told =
    subst (λ a. IsSomeAnd (g.S.Store.told c.run.new.store) (λ now. FilesAfter (map string_bytes c.args.words.now) files now a c.run.result))
    (sym (outcome_good (map string_bytes c.args.words.now) files (sym c.in-Ok.ensures.judged)))
    (subst (λ ws. IsSomeAnd (g.S.Store.told c.run.new.store) (λ now. FilesAfter (map string_bytes ws) files now (good_words (map string_bytes ws) files) c.run.result)) c.in-Ok.ensures.words
    (c.run.ensures.files files told))
