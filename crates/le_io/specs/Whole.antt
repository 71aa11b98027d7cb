-- What reading a whole set and writing a whole text say.
use Rattle.std.specs.Prelude.{◌≡◌, ℕ, ◌<◌, List, length, take, Option, None, Some, Result, Ok, Err, IsSomeAnd, Vec}
use Rattle.std.specs.declared.alloc.Global.{Global}
use Rattle.le_io.specs.declared.store.TheConstants.{SET_LIMIT}
use Rattle.le_io.specs.declared.store.Failed.{Failed}
use Rattle.le_io.specs.declared.whole.ReadStop.{ReadStop}
use Rattle.le_io.specs.declared.whole.ReadStop.TheVariants as stop
use Rattle.le_io.specs.Counts.{Files, Counts, NoFault, FaultsRose, MissesRose, LongsRose, Rose, Gains}

-- what a stop says of the files: Absent that the path is not there, TooLong that it holds more than the limit
abbrev pub StopTold : Files → List ℕ → ReadStop → Type 0
StopTold files path stop.Absent = files path ≡ None
StopTold files path stop.TooLong = IsSomeAnd (files path) (λ file. SET_LIMIT < length file)
StopTold files path stop.Failed = Unit {0}
StopTold files path stop.Memory = Unit {0}

-- Ok is all that the path holds
abbrev pub WholeTold : Files → List ℕ → Result (Vec ℕ Global) ReadStop → Type 0
WholeTold files path (Ok bytes) = files path ≡ Some bytes.items
WholeTold files path (Err why) = StopTold files path why

-- the count that a stop raises; each but Failed leaves the counts of faults as they were
abbrev pub StopHasCause : Counts → Counts → List ℕ → ReadStop → Type 0
StopHasCause old new path stop.Absent = NoFault old new × MissesRose old new path
StopHasCause old new path stop.TooLong = NoFault old new × LongsRose old new path
StopHasCause old new path stop.Failed = FaultsRose old new path
StopHasCause old new path stop.Memory = NoFault old new

-- Ok leaves the counts of faults as they were
abbrev pub WholeHasCause : {X : Type 0} → Counts → Counts → List ℕ → Result X ReadStop → Type 0
WholeHasCause old new path (Ok _) = NoFault old new
WholeHasCause old new path (Err why) = StopHasCause old new path why

-- Ok of a text that was written whole is no fault, and Failed is one
abbrev pub TextHasCause : ℕ → ℕ → Result (Unit {0}) Failed → Type 0
TextHasCause before now (Ok _) = now ≡ before
TextHasCause before now (Err _) = Rose before now

-- Ok appends the whole text, and Failed some part from its front
abbrev pub TextGains : Option (List ℕ) → Option (List ℕ) → List ℕ → Result (Unit {0}) Failed → Type 0
TextGains old new text (Ok _) = Gains old new text
TextGains old new text (Err _) = (n : ℕ) × Gains old new (take n text)
