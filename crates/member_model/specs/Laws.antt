-- Laws, each the contract of a function (this project's profile).
use Rattle.std.specs.Prelude.{◌≡◌, ℕ, ◌+◌, ◌≤◌, List, [], ◌∷◌, ◌++◌, fold, length, Some, None, option_map}
use Rattle.std.specs.Option.{option_or}
use Rattle.le_bytes.specs.declared.record_what.EventWhat.{EventWhat}
use Rattle.pds_directory.specs.declared.entry.Entry.{Entry}
use Rattle.load_recs.specs.declared.items.RldItem.{RldItem}
use Rattle.linking_model.specs.Run.{Event}
use Rattle.member_model.specs.Facts.{Facts, facts, seen}
use Rattle.member_model.specs.Faults.{fault}
use Rattle.member_model.specs.FirstBad.{IsGood, at, faults_from, fetch_bad}
use Rattle.member_model.specs.Fetched.{Fetched}
use Rattle.member_model.specs.Calling.{State}
use Rattle.member_model.specs.ByteRun.{Stops, step, run_from}
use Rattle.member_model.specs.Cuts.{cuts, together}
use Rattle.member_model.specs.Chunks.{chunks}

-- a run ends at the first refused event, with the state before it
abbrev pub RefusedEventsChangeNothing : Type 0
RefusedEventsChangeNothing =
    (m : Fetched) (S : State) (e : Event) (events : List Event) (why : EventWhat)
    → step m S e ≡ Stops why
    → run_from m S (e ∷ events) ≡ record { outcomes = []; refusal = Some why; state = S }

-- the chunks of relocation items are these items, in their order
abbrev pub ChunksHoldAllItems : Type 0
ChunksHoldAllItems = (items : List RldItem) → together (chunks items) ≡ items

-- the pieces of a text are this text
abbrev pub PiecesHoldAllText : Type 0
PiecesHoldAllText = (n : ℕ) (bytes : List ℕ) → 1 ≤ n → together (cuts n bytes) ≡ bytes

-- one more record adds what it holds
abbrev pub RecordsAddFacts : Type 0
RecordsAddFacts = (records : List (List ℕ)) (bytes : List ℕ) → facts (records ++ bytes ∷ []) ≡ seen (facts records) bytes

-- one more record has the first fault where the records before it have none
abbrev pub FaultsComeInTurn : Type 0
FaultsComeInTurn =
    (e : Entry) (F : Facts) (n : ℕ) (records : List (List ℕ)) (bytes : List ℕ)
    → faults_from e F n (records ++ bytes ∷ [])
    ≡ option_or (faults_from e F n records) (option_map (at (n + length records)) (fault e (fold seen F records) bytes))

-- a good member is fetched
abbrev pub GoodMembersAreFetched : Type 0
GoodMembersAreFetched = (e : Entry) (records : List (List ℕ)) → IsGood e records → fetch_bad e records ≡ None
