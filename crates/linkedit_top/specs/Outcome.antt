-- What linkedit answers, prints and puts, as one function of its words and of the files that are there.
use Rattle.std.specs.Prelude.{Bool, true, false, not, ◌&&◌, ◌||◌, if◌then◌else◌, List, [], ◌∷◌, ℕ, Option, Some, None, Result, Ok, Err}
use Rattle.std.specs.List.{list_all}
use Rattle.le_bytes.specs.declared.refusal.Refusal.{Refusal}
use Rattle.command_words.specs.declared.command.Command.{Command}
use Rattle.command_words.specs.declared.command.Command.TheVariants.{Go, Link, Fetch}
use Rattle.command_words.specs.declared.judging.BadWord.{BadWord}
use Rattle.command_words.specs.declared.options.Options.{Options}
use Rattle.command_words.specs.Judged.{bad_word}
use Rattle.command_words.specs.Keys.{syslin, syslmod, member, origin, parm}
use Rattle.command_words.specs.Word.{has_key}
use Rattle.command_words.specs.Meaning.{command_of, options_of}
use Rattle.pds_lib.specs.declared.set.Set.{Set}
use Rattle.le_io.specs.Counts.{Files}
use Rattle.command_sets.specs.declared.answer.Answer.{Answer}
use Rattle.command_sets.specs.Refusing.{bad_words, refused, unbuilt}
use Rattle.command_sets.specs.Sets.{sets_of}
use Rattle.command_fetch.specs.Fetch.{fetch}
use Rattle.linkedit_top.specs.Go.{go}
use Rattle.command_link.specs.Link.{link}

-- ---- what is built

-- the word gives a key that is built for the command: of `go` and `link` SYSLIN, SYSLMOD, MEMBER and PARM, of `go`
-- ORIGIN too, of `fetch` SYSLMOD, MEMBER and ORIGIN, and of any other command none
abbrev pub is_built_setting : Option Command → List ℕ → Bool
is_built_setting (Some Go) word =
    has_key syslin word || has_key syslmod word || has_key member word || has_key parm word || has_key origin word
is_built_setting (Some Link) word = has_key syslin word || has_key syslmod word || has_key member word || has_key parm word
is_built_setting (Some Fetch) word = has_key syslmod word || has_key member word || has_key origin word
is_built_setting _ word = false

-- every word after the command does
abbrev pub are_built_settings : List (List ℕ) → Bool
are_built_settings [] = true
are_built_settings (first ∷ settings) = list_all (is_built_setting (command_of (first ∷ settings))) settings

-- LET and DCBS at most are on
abbrev pub are_built_options : Options → Bool
are_built_options o = not (o.map || o.xref || o.ncal || o.xcal || o.ovly || o.sctr || o.rent)

-- the words ask for what is built
abbrev pub is_built : List (List ℕ) → Bool
is_built words = are_built_settings words && are_built_options (options_of words)

-- ---- all of it

-- the answer of a command for its data sets
abbrev pub command_answer : Option Command → List (List ℕ) → List Set → Answer
command_answer (Some Go) words sets = go words sets
command_answer (Some Link) words sets = link words sets
command_answer (Some Fetch) words sets = fetch words sets
command_answer _ words sets = unbuilt

-- the answer for the data sets, or for the first that is refused
abbrev pub sets_answer : List (List ℕ) → Result (List Set) Refusal → Answer
sets_answer words (Ok sets) = command_answer (command_of words) words sets
sets_answer words (Err refusal) = refused refusal

-- the answer to words of which none is bad
abbrev pub good_words : List (List ℕ) → Files → Answer
good_words words files = if is_built words then sets_answer words (sets_of words files) else unbuilt

-- the answer for the first bad word, or to good words
abbrev pub judged_words : List (List ℕ) → Files → Option BadWord → Answer
judged_words words files (Some bad) = bad_words bad
judged_words words files None = good_words words files

-- the first bad word, or the first refusal, or what is linked, put, fetched and printed
unfoldable pub outcome : List (List ℕ) → Files → Answer
outcome words files = judged_words words files (bad_word words)
