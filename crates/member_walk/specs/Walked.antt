-- What a walk over the records of a member keeps of them, and when they have been walked without a fault.
use Rattle.std.specs.Prelude.{◌≡◌, ℕ, ◌+◌, Bool, if◌then◌else◌, List, [], ◌∷◌, length, drop, Option, None, option_map}
use Rattle.std.specs.List.{list_all}
use Rattle.pds_directory.specs.declared.entry.Entry.{Entry}
use Rattle.member_model.specs.Facts.{Facts, facts, no_facts}
use Rattle.member_model.specs.Faults.{first_some}
use Rattle.member_model.specs.FirstBad.{Fault, at, faults_from, first_symbols, begins_with_symbols, head_fault, entry_fault}

-- the facts of the records so far but their text, how many records these are, and whether all are symbol records
pub record Walked : Type 0 where
  pub facts : Facts
  pub number : ℕ
  pub in_head : Bool

-- the facts with no text
abbrev pub without_texts : Facts → Facts
without_texts F = record F { texts = [] }

-- each record begins as a symbol record does
abbrev pub are_symbols : List (List ℕ) → Bool
are_symbols records = list_all begins_with_symbols records

-- what a walk over these records keeps
abbrev pub walked_of : List (List ℕ) → Walked
walked_of records =
    record { facts = without_texts (facts records); number = length records; in_head = are_symbols records }

-- the first fault, whatever records come after these: the entry point is judged once a record comes that is no symbol
-- record
unfoldable pub bad_so_far : Entry → List (List ℕ) → Option Fault
bad_so_far e records =
    let first = first_symbols records in
    first_some (
    faults_from e no_facts 1 first
    ∷ option_map (at 1) (head_fault records)
    ∷ option_map (at 0) (if are_symbols records then None else entry_fault e (facts first))
    ∷ faults_from e (facts first) (length first + 1) (drop (length first) records) ∷ [])

-- the records have no fault so far, and the walk has come to their end
pub record IsWalked (e : Entry) (records : List (List ℕ)) (w : Walked) : Type 0 where
  pub good : bad_so_far e records ≡ None
  pub state : w ≡ walked_of records
