-- What is put is read as the library that was meant, command by command.
use Rattle.std.specs.Prelude.{ℕ, List}
use Rattle.command_words.specs.declared.command.Command.{Command}
use Rattle.command_words.specs.declared.command.Command.TheVariants.{Go, Link}
use Rattle.pds_lib.specs.declared.set.Set.{Set}
use Rattle.command_sets.specs.declared.answer.Answer.{Answer}
use Rattle.command_link.specs.Link.{stowed_for}
use Rattle.command_link.specs.Stowing.{PutsStowed}

-- what a command that links puts is read as the library with the load modules
abbrev pub PutsAgain : Command → List (List ℕ) → List Set → Answer → Type 0
PutsAgain Link words sets answer = PutsStowed (stowed_for words sets) answer
PutsAgain Go words sets answer = PutsStowed (stowed_for words sets) answer
PutsAgain _ words sets answer = Unit {0}
