-- What each status says of the printed text, of the files, of the store and of the sink.
use Rattle.std.specs.Prelude.{◌≡◌, ◌⊎◌, ℕ, List, ◌++◌, take, Option, Some, None, IsSomeAnd, Result, Ok, Err}
use Rattle.le_bytes.specs.declared.name.Name.{Name}
use Rattle.le_bytes.specs.declared.refusal.Refusal.{Refusal}
use Rattle.le_bytes.specs.declared.refusal.Refusal.TheVariants as refusal
use Rattle.command_words.specs.Keys.{syslmod}
use Rattle.le_io.specs.Counts.{Files, Counts, Rose, NoFault, FaultsRose, PutFaultsRose, MissesRose, LongsRose}
use Rattle.le_io.specs.Reads.{OthersStay}
use Rattle.command_sets.specs.declared.status.Status.{Status}
use Rattle.command_sets.specs.declared.status.Status.TheVariants as status
use Rattle.command_sets.specs.declared.status.Fault.TheVariants as fault
use Rattle.command_sets.specs.declared.answer.Answer.{Answer}
use Rattle.command_sets.specs.declared.answer.Put.{Put}
use Rattle.command_words.specs.Meaning.{path_of}

-- ---- what is printed

-- the bytes held are those held before and the first n of the text, for some n
abbrev pub GainsPrefix : List ℕ → Option (List ℕ) → List ℕ → Type 0
GainsPrefix before after text = (n : ℕ) × (after ≡ Some (before ++ take n text))

-- the bytes held are those held before and the whole text
abbrev pub GainsAll : List ℕ → Option (List ℕ) → List ℕ → Type 0
GainsAll before after text = after ≡ Some (before ++ text)

-- the whole text, and then the status is the answer's; after a fault of the printing a prefix of the text, and
-- after any other fault and want of memory nothing
abbrev pub Prints : List ℕ → Option (List ℕ) → Answer → Status → Type 0
Prints before after answer (status.Fault fault.Print) = GainsPrefix before after answer.text
Prints before after answer (status.Fault _) = after ≡ Some before
Prints before after answer status.Memory = after ≡ Some before
Prints before after answer result = (result ≡ answer.status) × GainsAll before after answer.text

-- nothing more is held after a fault of a read or of the put and after want of memory
abbrev pub KeepsQuiet : Option (List ℕ) → Option (List ℕ) → Status → Type 0
KeepsQuiet before after (status.Fault fault.Print) = Unit {0}
KeepsQuiet before after (status.Fault _) = after ≡ before
KeepsQuiet before after status.Memory = after ≡ before
KeepsQuiet before after _ = Unit {0}

-- ---- data sets

-- the words name the data set, and it is so of its path
abbrev pub AtPath : List (List ℕ) → Name → (List ℕ → Type 0) → Type 0
AtPath words dd So = IsSomeAnd (path_of words dd) So

-- ---- the files

-- the image stands at the path of its data set, and all else is as before; without a put all is
abbrev pub Holds : List (List ℕ) → Files → Files → Option Put → Type 0
Holds words before after None = after ≡ before
Holds words before after (Some put) =
    AtPath words put.dd (λ path. (after path ≡ Some put.image) × OthersStay before after path)

-- anything may stand at the path of the put, and all else is as before
abbrev pub HoldsAnything : List (List ℕ) → Files → Files → Option Put → Type 0
HoldsAnything words before after put = IsSomeAnd put (λ x. AtPath words x.dd (OthersStay before after))

-- nothing is put where a read failed or memory is wanting, anything may stand where the put failed, and else exactly
-- the answer's image is put
abbrev pub FilesAfter : List (List ℕ) → Files → Files → Answer → Status → Type 0
FilesAfter words before after answer (status.Fault (fault.Read _)) = after ≡ before
FilesAfter words before after answer (status.Fault (fault.Write _)) = HoldsAnything words before after answer.put
FilesAfter words before after answer status.Memory = after ≡ before
FilesAfter words before after answer result = Holds words before after answer.put

-- ---- the store

-- which count of the store a refusal raised, at the path that the words give
abbrev pub RefusalHasCause : Counts → Counts → List (List ℕ) → Refusal → Type 0
RefusalHasCause old new words (refusal.SetAbsent dd) = AtPath words dd (MissesRose old new)
RefusalHasCause old new words (refusal.TooLong dd) = AtPath words dd (LongsRose old new)
RefusalHasCause old new words _ = Unit {0}

-- a fault of a read comes where the words name that data set and a read of it failed, one of a put where they name
-- SYSLMOD and its put failed, and no failed call is passed over
abbrev pub StoreHasCause : Counts → Counts → List (List ℕ) → Status → Type 0
StoreHasCause old new words (status.Fault (fault.Read dd)) = AtPath words dd (FaultsRose old new)
StoreHasCause old new words (status.Fault (fault.Write dd)) = (dd ≡ syslmod) × AtPath words dd (PutFaultsRose old new)
StoreHasCause old new words (status.Refused r) = NoFault old new × RefusalHasCause old new words r
StoreHasCause old new words _ = NoFault old new

-- ---- the sink

-- a fault of the printing comes where a write failed, and no failed write is passed over
abbrev pub SinkHasCause : ℕ → ℕ → Status → Type 0
SinkHasCause old new (status.Fault fault.Print) = Rose old new
SinkHasCause old new _ = new ≡ old

-- ---- completeness

-- no count of faults of the store or the sink rose
pub record NoneRose (old new : Counts) (before after : ℕ) : Type 0 where
  pub reads : (path : List ℕ) → FaultsRose old new path → ⊥
  pub puts : (path : List ℕ) → PutFaultsRose old new path → ⊥
  pub writes : Rose before after → ⊥

-- the status is that of the answer, but for a fault and want of memory
abbrev pub HasStatus : Status → Status → Type 0
HasStatus answered (status.Fault _) = Unit {0}
HasStatus answered status.Memory = Unit {0}
HasStatus answered result = result ≡ answered

-- where no count rose it is that of the answer, or memory is wanting
abbrev pub Completes : Counts → Counts → ℕ → ℕ → Status → Status → Type 0
Completes old new before after answered result =
    NoneRose old new before after → (result ≡ answered) ⊎ (result ≡ status.Memory)

-- ---- answers

-- a status that an answer may have
abbrev pub IsFinal : Status → Type 0
IsFinal (status.Fault _) = ⊥
IsFinal status.Memory = ⊥
IsFinal _ = Unit {0}

-- a refusal of what the data sets hold, and not of a set that is wanting or too long
abbrev pub IsOwnRefusal : Refusal → Type 0
IsOwnRefusal (refusal.SetAbsent _) = ⊥
IsOwnRefusal (refusal.TooLong _) = ⊥
IsOwnRefusal _ = Unit {0}

-- one of linking or stowing, and of no placement
abbrev pub IsLinkRefusal : Refusal → Type 0
IsLinkRefusal (refusal.SetAbsent _) = ⊥
IsLinkRefusal (refusal.TooLong _) = ⊥
IsLinkRefusal (refusal.Place _) = ⊥
IsLinkRefusal _ = Unit {0}

-- a refusal, if it is one, is of what the data sets hold
abbrev pub IsOwnResult : {A : Type 0} → Result A Refusal → Type 0
IsOwnResult (Ok x) = Unit {0}
IsOwnResult (Err refusal) = IsOwnRefusal refusal

-- a status that the bytes of the data sets give, and no words
abbrev pub IsOwn : Status → Type 0
IsOwn (status.Fault _) = ⊥
IsOwn status.Memory = ⊥
IsOwn (status.BadWords _ _) = ⊥
IsOwn (status.Refused r) = IsOwnRefusal r
IsOwn _ = Unit {0}

-- the status after the text was handed to the sink
abbrev pub PrintedStatus : Status → Status → Type 0
PrintedStatus answered result = (result ≡ answered) ⊎ (result ≡ status.Fault fault.Print)
