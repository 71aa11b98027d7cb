-- What the answers of a store's calls say.
use Rattle.std.specs.Prelude.{◌≡◌, ◌≢◌, ◌↔◌, ℕ, ◌<◌, ◌≤◌, List, length, take, drop, None, Some, Result, Ok, Err, IsSomeAnd}
use Rattle.le_io.specs.declared.store.TheConstants.{SET_LIMIT}
use Rattle.le_io.specs.declared.store.Got.{Got}
use Rattle.le_io.specs.declared.store.Got.TheVariants as got
use Rattle.le_io.specs.declared.store.Failed.{Failed}
use Rattle.le_io.specs.Counts.{Files, Counts, NoFault, FaultsRose, PutFaultsRose, MissesRose, LongsRose}

-- no more bytes than the buffer has room for
abbrev pub ReadsWithin : Got → ℕ → Type 0
ReadsWithin (got.Bytes n) room = n ≤ room
ReadsWithin got.Absent room = Unit {0}
ReadsWithin got.Failed room = Unit {0}

-- the first n bytes of the buffer are those of the file from `at`, and a buffer with room gets none exactly
-- at or past the end
pub record IsPart (file : List ℕ) (at n : ℕ) (into : List ℕ) : Type 0 where
  pub bytes : take n into ≡ take n (drop at file)
  pub at_end : 0 < length into → (n ≡ 0) ↔ (length file ≤ at)

-- what an answer says of the files
abbrev pub ReadsTold : Files → List ℕ → ℕ → List ℕ → Got → Type 0
ReadsTold files path at into (got.Bytes n) = IsSomeAnd (files path) (λ file. IsPart file at n into)
ReadsTold files path at into got.Absent = files path ≡ None
ReadsTold files path at into got.Failed = Unit {0}

-- which count each answer raises, and that only Failed may raise a count of faults
abbrev pub ReadHasCause : Counts → Counts → List ℕ → ℕ → Got → Type 0
ReadHasCause old new path at (got.Bytes n) =
    NoFault old new × (0 < n → SET_LIMIT ≤ at → LongsRose old new path)
ReadHasCause old new path at got.Absent = NoFault old new × MissesRose old new path
ReadHasCause old new path at got.Failed = FaultsRose old new path

-- all other paths are as before
abbrev pub OthersStay : Files → Files → List ℕ → Type 0
OthersStay old new path = (other : List ℕ) → other ≢ path → new other ≡ old other

-- after Ok the path holds the bytes; all other paths stay in any case
abbrev pub PutsTold : Files → Files → List ℕ → List ℕ → Result (Unit {0}) Failed → Type 0
PutsTold old new path bytes (Ok _) = (new path ≡ Some bytes) × OthersStay old new path
PutsTold old new path bytes (Err _) = OthersStay old new path

-- only Failed may raise a count of faults, and it raises that of puts to the path
abbrev pub PutHasCause : Counts → Counts → List ℕ → Result (Unit {0}) Failed → Type 0
PutHasCause old new path (Ok _) = NoFault old new
PutHasCause old new path (Err _) = PutFaultsRose old new path
