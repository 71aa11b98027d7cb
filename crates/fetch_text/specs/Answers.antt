-- What fetching a member and printing it answers.
use Rattle.std.specs.Prelude.{◌≡◌, ℕ, true, List, Option, Result, Ok, Err, Vec}
use Rattle.std.specs.declared.alloc.Global.{Global}
use Rattle.le_io.specs.Counts.{Rose}
use Rattle.pds_directory.specs.declared.entry.Entry.{Entry}
use Rattle.member_model.specs.Placing.{is_origin}
use Rattle.prog_fetch.specs.Sources.{Seen, NothingFailed, AreOf}
use Rattle.fetch_text.specs.declared.stop.FetchStop.{FetchStop}
use Rattle.fetch_text.specs.declared.stop.FetchStop.TheVariants.{Place, Module, ReadFault, Memory}
use Rattle.fetch_text.specs.Told.{fetch_answer}

-- the answer is that of these records; of a failed read and of want of memory no more is said than that the member may
-- stand at the origin
abbrev pub Answers : Entry → List (List ℕ) → ℕ → Result (Vec ℕ Global) FetchStop → Type 0
Answers e records origin (Ok text) = fetch_answer e records origin ≡ Ok text.items
Answers e records origin (Err (Place what)) = fetch_answer e records origin ≡ Err (Place what)
Answers e records origin (Err (Module number what)) = fetch_answer e records origin ≡ Err (Module number what)
Answers e records origin (Err ReadFault) = is_origin e.length origin ≡ true
Answers e records origin (Err Memory) = is_origin e.length origin ≡ true

-- the answer is that of some records that the source may have, which are its own where it tells them
abbrev pub AnswersSome : Option (List (List ℕ)) → ℕ → Entry → ℕ → Result (Vec ℕ Global) FetchStop → Type 0
AnswersSome list total e origin answer = (records : List (List ℕ)) × AreOf list total records × Answers e records origin answer

-- a failed read comes only where the faults of the source rose, and any other answer leaves the counts
abbrev pub HasReason : {X : Type 0} → Seen → Seen → Result X FetchStop → Type 0
HasReason old new (Err ReadFault) = Rose old.faults new.faults
HasReason old new _ = NothingFailed old new
