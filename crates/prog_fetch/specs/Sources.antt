-- What a call that reads records leaves of their source and of the store, and what a list of records has to do with them.
use Rattle.std.specs.Prelude.{◌≡◌, ℕ, Bool, List, length, Option, Result, Err}
use Rattle.le_io.specs.Counts.{Files, Counts, WhereTold, NoneFalls, NoFault, Rose}
use Rattle.lib_stream.specs.Sources.{SameRecords, SameHeld}
use Rattle.prog_fetch.specs.declared.fault.FetchFault.{FetchFault}
use Rattle.prog_fetch.specs.declared.fault.FetchFault.TheVariants.{ReadFault}

-- what is told and what is counted of a source and its store
pub record Seen : Type 0 where
  pub list : Option (List (List ℕ))
  pub total : ℕ
  pub lengths : ℕ → ℕ
  pub keeps : Bool
  pub held : ℕ → Bool
  pub files : Option Files
  pub faults : ℕ
  pub counts : Counts

-- the records, their number and lengths, what is held, and what the store tells are as they were, and no count has fallen
pub record Stays (old new : Seen) : Type 0 where
  pub records : SameRecords old.list new.list old.total new.total old.lengths new.lengths
  pub held : SameHeld old.keeps new.keeps old.held new.held
  pub files : new.files ≡ old.files
  pub counts : NoneFalls old.counts new.counts

-- no record failed, and nothing was counted as failed
pub record NothingFailed (old new : Seen) : Type 0 where
  pub records : new.faults ≡ old.faults
  pub store : NoFault old.counts new.counts

-- a failed read comes only where the faults of the source rose, and any other answer leaves the counts
abbrev pub HasReason : {X : Type 0} → Seen → Seen → Result X FetchFault → Type 0
HasReason old new (Err ReadFault) = Rose old.faults new.faults
HasReason old new _ = NothingFailed old new

-- these are all records that the source has, as far as it tells
pub record AreOf (list : Option (List (List ℕ))) (total : ℕ) (records : List (List ℕ)) : Type 0 where
  pub told : WhereTold list (λ all. records ≡ all)
  pub counted : length records ≡ total

-- a source and its store, by the members of their traits
abbrev pub seen : {R S : Type 0} → (R → S → Option (List (List ℕ))) → (R → ℕ) → (R → ℕ → ℕ) → (R → Bool) → (R → ℕ → Bool) → (S → Option Files) → (R → S → ℕ) → (S → Counts) → R → S → Seen
seen list total lengths keeps held files faults counts r s = record {
  list = list r s;
  total = total r;
  lengths = lengths r;
  keeps = keeps r;
  held = held r;
  files = files s;
  faults = faults r s;
  counts = counts s;
}
