-- One record more: what is wrong with it, and what is kept after it.
use Rattle.std.specs.Prelude.{◌≡◌, ℕ, ◌+◌, Bool, not, ◌&&◌, ◌==◌, if◌then◌else◌, List, [], ◌∷◌, Option, Some, None, option_map, Result, Ok, Err}
use Rattle.std.specs.Option.{option_or}
use Rattle.le_bytes.specs.declared.record_what.RecWhat.{RecWhat}
use Rattle.le_bytes.specs.declared.record_what.RecWhat.TheVariants.{NoEnd}
use Rattle.pds_directory.specs.declared.entry.Entry.{Entry}
use Rattle.load_recs.specs.Faults.{what_of}
use Rattle.load_recs.specs.Reading.{own_fault}
use Rattle.member_model.specs.Facts.{seen}
use Rattle.member_model.specs.Faults.{first_some, when, fault}
use Rattle.member_model.specs.FirstBad.{Fault, at, begins_with_symbols, entry_fault}
use Rattle.member_walk.specs.Walked.{Walked, without_texts}
use Rattle.member_walk.specs.declared.faults.WalkFault.{WalkFault}
use Rattle.member_walk.specs.declared.faults.WalkFault.TheVariants.{At, Memory}

-- the record is the first that is no symbol record
abbrev pub ends_head : Walked → List ℕ → Bool
ends_head w bytes = w.in_head && not (begins_with_symbols bytes)

-- the own fault of the member's first record
abbrev pub first_own_fault : Walked → List ℕ → Option RecWhat
first_own_fault w bytes = if w.number == 0 then option_map what_of (own_fault bytes) else None

-- the first fault of the entry point or of the first record, where the symbol records end before this one
unfoldable pub head_bad : Entry → Walked → List ℕ → Option Fault
head_bad e w bytes =
    if ends_head w bytes then
    first_some (option_map (at 1) (first_own_fault w bytes) ∷ option_map (at 0) (entry_fault e w.facts) ∷ [])
    else None

-- the first fault that shows with this record
unfoldable pub step_bad : Entry → Walked → List ℕ → Option Fault
step_bad e w bytes = option_or (head_bad e w bytes) (option_map (at (w.number + 1)) (fault e w.facts bytes))

-- what is kept once the record is taken
unfoldable pub stepped : Walked → List ℕ → Walked
stepped w bytes = record {
  facts = without_texts (seen w.facts bytes);
  number = w.number + 1;
  in_head = w.in_head && begins_with_symbols bytes;
}

-- the first fault that shows once no record comes any more
unfoldable pub end_bad : Entry → Walked → Bool → Option Fault
end_bad e w is_whole =
    first_some (
    option_map (at 0) (if w.in_head then entry_fault e w.facts else None)
    ∷ option_map (at (w.number + 1)) (when (not is_whole) NoEnd) ∷ [])

-- the walk after the record, or the fault that shows with it
abbrev pub Steps : Entry → Walked → List ℕ → Result Walked WalkFault → Type 0
Steps e w bytes (Ok next) = (step_bad e w bytes ≡ None) × (next ≡ stepped w bytes)
Steps e w bytes (Err (At number what)) = step_bad e w bytes ≡ Some (number, what)
Steps e w bytes (Err Memory) = Unit {0}
