-- The answer to good words, put together.
use Rattle.std.proofs.Common.{◌≡◌, ℕ, true, false, List, sym, ◌∙◌, ap, Some, None, Ok, Err, if◌then◌else◌}
use Rattle.le_bytes.specs.declared.refusal.Refusal.{Refusal}
use Rattle.command_words.specs.declared.command.Command.{Command}
use Rattle.command_words.specs.Meaning.{command_of}
use Rattle.le_io.specs.Counts.{Files}
use Rattle.pds_lib.specs.declared.set.Set.{Set}
use Rattle.command_sets.specs.declared.answer.Answer.{Answer}
use Rattle.command_sets.specs.Refusing.{refused, unbuilt}
use Rattle.command_sets.specs.Sets.{sets_of}
use Rattle.command_words.specs.Judged.{bad_word}
use Rattle.linkedit_top.specs.Outcome.{command_answer, good_words, is_built, judged_words, outcome, sets_answer}

module _ (words : List (List ℕ)) (files : Files) (built : is_built words ≡ true) where
  read : good_words words files ≡ sets_answer words (sets_of words files)
  read = ap (λ b. if b then sets_answer words (sets_of words files) else unbuilt) built

  pub decided : (sets : List Set) (command : Command) (found : Answer) → Ok sets ≡ sets_of words files → command_of words ≡ Some command
      → found ≡ command_answer (Some command) words sets → found ≡ good_words words files
  decided sets command found is named answers =
      answers ∙ (sym (ap (λ c. command_answer c words sets) named) ∙ (ap (sets_answer words) is ∙ sym read))

  pub declined : (refusal : Refusal) (found : Answer) → Err refusal ≡ sets_of words files → found ≡ refused refusal → found ≡ good_words words files
  declined refusal found is answers = answers ∙ (ap (sets_answer words) is ∙ sym read)

pub not_built : (words : List (List ℕ)) (files : Files) (found : Answer) → is_built words ≡ false → found ≡ unbuilt → found ≡ good_words words files
not_built words files found other answers = answers ∙ sym (ap (λ b. if b then sets_answer words (sets_of words files) else unbuilt) other)

-- good words
pub outcome_good : (words : List (List ℕ)) (files : Files) → bad_word words ≡ None → outcome words files ≡ good_words words files
unfolding outcome
outcome_good words files good = ap (judged_words words files) good
