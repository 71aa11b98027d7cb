-- The first record of a member that has a fault, with the first of its faults (this project's profile).
use Rattle.std.specs.Prelude.{◌≡◌, ℕ, ◌+◌, Bool, false, not, ◌&&◌, ◌==◌, nat_lt, nat_le, if◌then◌else◌, List, [], ◌∷◌, length, drop, take_while, Option, None, option_map}
use Rattle.std.specs.Option.{option_or, option_map_or}
use Rattle.le_bytes.specs.declared.record_what.RecWhat.{RecWhat}
use Rattle.le_bytes.specs.declared.record_what.RecWhat.TheVariants.{BadEntryPoint, NoEnd}
use Rattle.pds_directory.specs.declared.entry.Entry.{Entry}
use Rattle.load_recs.specs.Faults.{what_of}
use Rattle.load_recs.specs.Reading.{own_fault}
use Rattle.load_recs.specs.declared.items.SymbolItem.{SymbolItem}
use Rattle.member_model.specs.Symbols.{is_overlay_member, is_section, symbol_at, end_of}
use Rattle.member_model.specs.Facts.{Facts, no_facts, seen, facts}
use Rattle.member_model.specs.Faults.{first_some, when, fault}

-- the number of a record, from 1, and what is wrong with it
abbrev pub Fault : Type 0
Fault = ℕ × RecWhat

-- the fault at record n
abbrev pub at : ℕ → RecWhat → Fault
at n what = (n, what)

-- the first fault of records from number n on, after those that gave the facts
unfoldable pub faults_from : Entry → Facts → ℕ → List (List ℕ) → Option Fault
faults_from e F n [] = None
faults_from e F n (b ∷ bs) = option_or (option_map (at n) (fault e F b)) (faults_from e (seen F b) (n + 1) bs)

-- the entry point lies in a section of segment 1, or at its end
abbrev pub is_entry_section : Entry → SymbolItem → Bool
is_entry_section e x = is_section x && x.segment == 1 && nat_le x.address e.entry && nat_le e.entry (end_of x)

-- the fault of the entry point
abbrev pub entry_fault : Entry → Facts → Option RecWhat
entry_fault e F =
    when (not (option_map_or (is_entry_section e) (symbol_at F.symbols e.entry_section) false)) BadEntryPoint

-- the record begins as a symbol record does
abbrev pub begins_with_symbols : List ℕ → Bool
begins_with_symbols [] = false
begins_with_symbols (identifier ∷ _) = identifier == 32

-- the symbol records that the member begins with
abbrev pub first_symbols : List (List ℕ) → List (List ℕ)
first_symbols records = take_while begins_with_symbols records

-- the own fault of the first record, where that is no symbol record
abbrev pub head_fault : List (List ℕ) → Option RecWhat
head_fault [] = None
head_fault (b ∷ _) = if begins_with_symbols b then None else option_map what_of (own_fault b)

-- the entry point is judged, as number 0, once the symbol records are read that the member begins with; that the
-- records end too early is judged last, at the number after the last of them
unfoldable pub first_bad_of : Entry → List (List ℕ) → Bool → Option Fault
first_bad_of e records is_whole =
    let first = first_symbols records in
    first_some (
    faults_from e no_facts 1 first
    ∷ option_map (at 1) (head_fault records)
    ∷ option_map (at 0) (entry_fault e (facts first))
    ∷ faults_from e (facts first) (length first + 1) (drop (length first) records)
    ∷ option_map (at (length records + 1)) (when (not is_whole) NoEnd) ∷ [])

-- the first fault of a member, none of a good one
unfoldable pub first_bad : Entry → List (List ℕ) → Option Fault
first_bad e records = first_bad_of e records (facts records).ended

-- the member has no fault
abbrev pub IsGood : Entry → List (List ℕ) → Type 0
IsGood e records = first_bad e records ≡ None

-- the records up to the one that ends segment 1
unfoldable pub root_part : Facts → List (List ℕ) → List (List ℕ)
root_part F [] = []
root_part F (b ∷ bs) = if F.segment == 1 then b ∷ root_part (seen F b) bs else []

-- the first fault that a fetch meets: of an overlay member it reads no further than segment 1
unfoldable pub fetch_bad : Entry → List (List ℕ) → Option Fault
fetch_bad e records =
    let part = root_part no_facts records in
    if is_overlay_member e then first_bad_of e part (nat_lt 1 (facts part).segment) else first_bad e records
