-- What the answers of a source of records say.
use Rattle.std.specs.Prelude.{◌≡◌, ℕ, ◌-◌, ◌==◌, ◌≤◌, Bool, not, ◌&&◌, ◌||◌, List, [], length, get_or, slice_get, Option, Some, Result, Ok, Err}
use Rattle.le_io.specs.declared.store.Failed.{Failed}
use Rattle.le_io.specs.Counts.{Counts, CountsCall, NoFault, Rose}

-- record numbers are from 1 to how many records there are
abbrev pub IsRecordNumber : ℕ → ℕ → Type 0
IsRecordNumber total n = (1 ≤ n) × (n ≤ total)

-- these bytes are record n of the list
abbrev pub IsRecord : List (List ℕ) → ℕ → List ℕ → Type 0
IsRecord records n bytes = slice_get records (n - 1) ≡ Some bytes

-- the length of record n of the list
abbrev pub length_of : List (List ℕ) → ℕ → ℕ
length_of records n = length (get_or records (n - 1) [])

-- the list has so many records, of these lengths
pub record AreRecords (records : List (List ℕ)) (total : ℕ) (lengths : ℕ → ℕ) : Type 0 where
  pub counted : length records ≡ total
  pub measured : (n : ℕ) → IsRecordNumber total n → lengths n ≡ length_of records n

-- the list, the number of records and their lengths are as they were
pub record SameRecords (old_list new_list : Option (List (List ℕ))) (old_total new_total : ℕ) (old_lengths new_lengths : ℕ → ℕ) : Type 0 where
  pub list : new_list ≡ old_list
  pub total : new_total ≡ old_total
  pub lengths : (n : ℕ) → new_lengths n ≡ old_lengths n

-- whether the source keeps, and what it holds, are as they were
pub record SameHeld (old_keeps new_keeps : Bool) (old_held new_held : ℕ → Bool) : Type 0 where
  pub keeps : new_keeps ≡ old_keeps
  pub held : (m : ℕ) → new_held m ≡ old_held m

-- Ok leaves the faults of the source and of the store as they were, and Failed comes only where those of the source rose
abbrev pub HasCause : {X : Type 0} → ℕ → ℕ → Counts → Counts → Result X Failed → Type 0
HasCause before now old new (Ok _) = (now ≡ before) × NoFault old new
HasCause before now old new (Err _) = (before ≤ now) × Rose before now

-- Ok leaves the count, and Failed is counted, as far as a u64 goes
abbrev pub CountsFault : {X : Type 0} → ℕ → ℕ → Result X Failed → Type 0
CountsFault before now (Ok _) = now ≡ before
CountsFault before now (Err _) = (before ≤ now) × CountsCall before now

-- Ok adds the record to those that are held, where the source keeps it, and Failed changes nothing
abbrev pub StageHolds : Bool → (ℕ → Bool) → (ℕ → Bool) → ℕ → Result (Unit {0}) Failed → Type 0
StageHolds keeps old new n (Ok _) = (m : ℕ) → new m ≡ (old m || keeps && m == n)
StageHolds keeps old new n (Err _) = (m : ℕ) → new m ≡ old m

-- the record is held no more, and all others are as they were
abbrev pub ReleaseHolds : (ℕ → Bool) → (ℕ → Bool) → ℕ → Type 0
ReleaseHolds old new n = (m : ℕ) → new m ≡ (old m && not (m == n))
