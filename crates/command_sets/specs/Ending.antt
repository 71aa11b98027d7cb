-- What the put and the printing of an answer come to.
use Rattle.std.specs.Prelude.{◌≡◌, ◌⊎◌, ℕ, List, Option, Some, None, Result, Ok, Err}
use Rattle.le_io.specs.Counts.{Files, Counts, NoFault, PutFaultsRose}
use Rattle.le_io.specs.declared.store.Failed.{Failed}
use Rattle.command_words.specs.Keys.{syslmod}
use Rattle.command_words.specs.declared.judging.BadWord.{BadWord}
use Rattle.command_sets.specs.declared.answer.Put.{Put}
use Rattle.command_sets.specs.declared.status.Status.{Status}
use Rattle.command_sets.specs.declared.status.Status.TheVariants as status
use Rattle.command_sets.specs.declared.status.Fault.TheVariants as fault
use Rattle.command_sets.specs.Causes.{AtPath, Holds, HoldsAnything}

-- ---- the put

-- the image stands there, or anything may
abbrev pub PutTold : List (List ℕ) → Files → Files → Option Put → Result (Unit {0}) Failed → Type 0
PutTold words before after put (Ok _) = Holds words before after put
PutTold words before after put (Err _) = HoldsAnything words before after put

-- a put that failed is counted at the path of SYSLMOD, and else none failed
abbrev pub PutHasCause : Counts → Counts → List (List ℕ) → Result (Unit {0}) Failed → Type 0
PutHasCause old new words (Ok _) = NoFault old new
PutHasCause old new words (Err _) = AtPath words syslmod (PutFaultsRose old new)

-- ---- the end

-- the status is that of the answer, or a fault of the put or of the printing
abbrev pub EndsAs : Status → Status → Type 0
EndsAs answered result =
    ((result ≡ answered) ⊎ (result ≡ status.Fault fault.Print)) ⊎ (result ≡ status.Fault (fault.Write syslmod))

-- a fault of the put has its count, and else none failed
abbrev pub EndHasCause : Counts → Counts → List (List ℕ) → Status → Type 0
EndHasCause old new words (status.Fault (fault.Write dd)) = (dd ≡ syslmod) × AtPath words dd (PutFaultsRose old new)
EndHasCause old new words _ = NoFault old new

-- the status is that of the answer, or the printing failed, or memory was wanting
abbrev pub RefusesAs : Status → Status → Type 0
RefusesAs answered result =
    ((result ≡ answered) ⊎ (result ≡ status.Fault fault.Print)) ⊎ (result ≡ status.Memory)

-- ---- the words

-- no word is called bad
abbrev pub IsOfGoodWords : Status → Type 0
IsOfGoodWords (status.BadWords _ _) = ⊥
IsOfGoodWords _ = Unit {0}

-- the status where this is the first bad word, if one is bad: it is told, unless the printing fails or memory is
-- wanting; and where none is bad, none is told
abbrev pub JudgesWords : Option BadWord → Status → Type 0
JudgesWords (Some bad) result = RefusesAs (status.BadWords bad.word bad.what) result
JudgesWords None result = IsOfGoodWords result
