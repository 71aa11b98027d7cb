-- What the calls of a walk answer.
use Rattle.std.specs.Prelude.{◌≡◌, ℕ, ◌==◌, ◌||◌, Bool, not, nat_lt, if◌then◌else◌, List, [], ◌∷◌, ◌++◌, Option, Some, None, option_map, Result, Ok, Err}
use Rattle.le_bytes.specs.declared.record_what.RecWhat.{RecWhat}
use Rattle.pds_directory.specs.declared.entry.Entry.{Entry}
use Rattle.member_model.specs.Symbols.{is_overlay_member}
use Rattle.member_model.specs.Facts.{Text}
use Rattle.member_model.specs.FirstBad.{Fault, first_bad_of}
use Rattle.member_walk.specs.Walked.{Walked, IsWalked}
use Rattle.member_walk.specs.declared.faults.WalkFault.{WalkFault}
use Rattle.member_walk.specs.declared.faults.WalkFault.TheVariants.{At, Memory}
use Rattle.member_walk.specs.declared.parts.TextPlace.{TextPlace}

-- where the next record lies, if it is text
abbrev pub text_told : Walked → Option TextPlace
text_told w =
    option_map (λ text. record { segment = w.facts.segment; section = text.section; address = text.address }) w.facts.due

-- the text that a record adds, which lies where this says
abbrev pub texts_of : Option TextPlace → List ℕ → List Text
texts_of None bytes = []
texts_of (Some place) bytes =
    record { segment = place.segment; section = place.section; address = place.address; bytes = bytes } ∷ []

-- the first fault of any member that goes on with this record after the records that were walked
abbrev pub IsFirstFault : Entry → Walked → List ℕ → WalkFault → Type 0
IsFirstFault e w bytes (At number what) =
    (records rest : List (List ℕ)) (is_whole : Bool) → IsWalked e records w
    → first_bad_of e (records ++ bytes ∷ rest) is_whole ≡ Some (number, what)
IsFirstFault e w bytes Memory = Unit {0}

-- the fault that an answer tells
abbrev pub fault_told : {A : Type 0} → Result A Fault → Option Fault
fault_told (Ok _) = None
fault_told (Err fault) = Some fault

-- a fetch reads the next record too: the member has no overlay, or segment 1 goes on
abbrev pub is_fetched_on : Entry → Walked → Bool
is_fetched_on e w = not (is_overlay_member e) || w.facts.segment == 1

-- what a fetch had to read has come: segment 1 of a member with overlay, and any other member whole
abbrev pub is_fetched_whole : Entry → Walked → Bool
is_fetched_whole e w = if is_overlay_member e then nat_lt 1 w.facts.segment else w.facts.ended
