-- What an answer, or a stop before it, says of the files and of the store's counts.
use Rattle.std.specs.Prelude.{◌≡◌, Bool, true, IsSome, ℕ, ◌≤◌, List, ◌++◌, ◌∷◌, [], length, Option, Some, None, Result, Ok, Err, IfSome}
use Rattle.le_bytes.specs.declared.refusal.Refusal.{Refusal}
use Rattle.le_io.specs.Counts.{Counts, NoFault, FaultsRose}
use Rattle.command_words.specs.Keys.{syslmod}
use Rattle.command_words.specs.Meaning.{path_of}
use Rattle.pds_directory.specs.declared.kinds.LibKind.TheVariants.{Modules}
use Rattle.pds_lib.specs.declared.set.Body.{Body}
use Rattle.pds_lib.specs.declared.set.Body.TheVariants.{Cards, Lib}
use Rattle.pds_lib.specs.declared.set.Set.{Set}
use Rattle.command_sets.specs.declared.answer.Answer.{Answer}
use Rattle.command_sets.specs.declared.stop.Stop.{Stop}
use Rattle.command_sets.specs.declared.stop.Stop.TheVariants.{Read, Memory}
use Rattle.pds_lib.specs.Contents.{Contents}
use Rattle.member_model.specs.StandsFor.{AreBytes}
use Rattle.link_core.specs.declared.linked.Linked.{Linked}
use Rattle.command_sets.specs.Sets.{set_limit}
use Rattle.command_link.specs.Link.{with_module}
use Rattle.command_sets.specs.Causes.{AtPath, StoreHasCause, RefusalHasCause, IsFinal}

-- ---- answers

-- the answer is this one, unless there is none
abbrev pub Decides : Answer → Result Answer Stop → Type 0
Decides answer (Ok found) = found ≡ answer
Decides answer (Err _) = Unit {0}

-- an answer has no failed read, and a stop at a read has one of its data set
abbrev pub HasCause : Counts → Counts → List (List ℕ) → Result Answer Stop → Type 0
HasCause old new words (Ok found) = NoFault old new × StoreHasCause old new words found.status × IsFinal found.status
HasCause old new words (Err (Read dd)) = AtPath words dd (FaultsRose old new)
HasCause old new words (Err Memory) = NoFault old new
