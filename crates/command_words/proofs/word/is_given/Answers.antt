use Rattle.std.proofs.Common.{rules, ◌∙◌, string_bytes}
use borrow.Author.Tests.{tests}
use Rattle.std.proofs.lemmas.Iterator.{YieldsList-from_slice}
use Rattle.std.proofs.lemmas.Iterator.Search.{any_from_yields_List}
use Rattle.command_words.specs.Word.{has_key}
use Rattle.command_words.proofs.WordLemmas.{list_any-map}
use Rattle.command_words.proofs.word.is_given.Goals as goal

pub returns : goal.returns
returns c =
    any_from_yields_List (λ word. has_key c.args.key (string_bytes word)) _ _ _ c.any.ensures.ran
    (YieldsList-from_slice c.args.words.now c.iter.ensures.rest) (λ x b q k. search (rules, tests))
    ∙ list_any-map (has_key c.args.key) string_bytes c.args.words.now
