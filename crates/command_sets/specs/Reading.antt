-- What reading the data sets that the words name comes to.
use Rattle.std.specs.Prelude.{◌≡◌, ℕ, ◌≤◌, List, ◌++◌, ◌∷◌, [], length, Option, Some, None, IsSome, Result, Ok, Err}
use Rattle.le_bytes.specs.declared.refusal.Refusal.{Refusal}
use Rattle.le_bytes.specs.Numbers.{AreBytes}
use Rattle.le_io.specs.Counts.{Counts, NoFault, FaultsRose}
use Rattle.command_words.specs.Meaning.{path_of}
use Rattle.pds_directory.specs.declared.kinds.LibKind.TheVariants.{Modules}
use Rattle.pds_lib.specs.declared.set.Body.{Body}
use Rattle.pds_lib.specs.declared.set.Body.TheVariants.{Cards, Lib}
use Rattle.pds_lib.specs.declared.set.Set.{Set}
use Rattle.command_sets.specs.declared.stop.Stop.{Stop}
use Rattle.command_sets.specs.declared.stop.Stop.TheVariants.{Read, Memory}
use Rattle.command_sets.specs.Sets.{set_limit}
use Rattle.command_sets.specs.Causes.{AtPath, RefusalHasCause}

-- the set that a word names, if it names one, comes after the others, or is refused
abbrev pub Takes : Option (Result Set Refusal) → List Set → List Set → Result (Unit {0}) Refusal → Type 0
Takes None old new result = (result ≡ Ok tt) × (new ≡ old)
Takes (Some (Ok found)) old new result = (result ≡ Ok tt) × (new ≡ old ++ found ∷ [])
Takes (Some (Err refusal)) old new result = result ≡ Err refusal

-- a stop at a read has a failed read of its data set, a refusal its cause, and nothing else has a failed read
abbrev pub SetsHaveCause : {A : Type 0} → Counts → Counts → List (List ℕ) → Result (Result A Refusal) Stop → Type 0
SetsHaveCause old new words (Ok (Ok _)) = NoFault old new
SetsHaveCause old new words (Ok (Err refusal)) = NoFault old new × RefusalHasCause old new words refusal
SetsHaveCause old new words (Err (Read dd)) = AtPath words dd (FaultsRose old new)
SetsHaveCause old new words (Err Memory) = NoFault old new

-- cards of a set that is not too long, which are bytes, or a library of load modules
abbrev pub IsReadBody : Body → Type 0
IsReadBody (Cards bytes) = (length bytes ≤ set_limit) × AreBytes bytes
IsReadBody (Lib lib) = lib.kind ≡ Modules

-- so it is with a set by its name, which some word gives
abbrev pub IsReadSet : List (List ℕ) → Set → Type 0
IsReadSet words x = IsReadBody x.body × IsSome (path_of words x.dd)
