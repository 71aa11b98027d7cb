-- Where a member may be placed, and which fault comes first where it may not (this project's profile).
use Rattle.std.specs.Prelude.{ℕ, ◌+◌, ◌%◌, Bool, false, not, ◌&&◌, ◌||◌, ◌==◌, nat_le, if◌then◌else◌, List, [], ◌∷◌, map, filter, length, take_while, Option, Some, None, option_and_then}
use Rattle.std.specs.Option.{option_map_or}
use Rattle.le_bytes.specs.declared.name.Name.{Name}
use Rattle.pds_directory.specs.declared.entry.Entry.{Entry}
use Rattle.load_recs.specs.Forms.{is_one_of}
use Rattle.load_recs.specs.declared.items.SymbolItem.{SymbolItem}
use Rattle.linking_model.specs.Scattered.{Area, found, scattered}
use Rattle.member_model.specs.Symbols.{is_overlay_member, is_scatter_member, is_section, printed_name}
use Rattle.member_model.specs.Facts.{facts}
use Rattle.member_model.specs.Faults.{is_incomplete}
use Rattle.member_model.specs.FirstBad.{Fault, first_bad}

-- ---- in a block

-- a module of this length may begin there
abbrev pub is_origin : ℕ → ℕ → Bool
is_origin size at = at % 8 == 0 && nat_le (at + size) 16777215

-- ---- over areas

-- a member in scatter format, and not of overlay
abbrev pub may_scatter : Entry → Bool
may_scatter e = is_scatter_member e && not (is_overlay_member e)

-- the sections among the items
abbrev pub sections_of : List SymbolItem → List SymbolItem
sections_of symbols = filter is_section symbols

-- the addresses of the sections, in item order, none where one fits nowhere
abbrev pub addresses_over : List Area → List SymbolItem → Option (List ℕ)
addresses_over areas symbols = scattered areas (map (λ x. x.length) (sections_of symbols))

-- the first of these sections that fits in none of the areas, by its printed name
unfoldable pub homeless : List Area → List SymbolItem → Option Name
homeless areas [] = None
homeless areas (x ∷ xs) = option_map_or (λ f. homeless f.left xs) (found areas x.length) (Some (printed_name x))

-- ---- faults that come before want of storage

-- a control or relocation record, by its first byte
abbrev pub is_of_segment : List ℕ → Bool
is_of_segment [] = false
is_of_segment (identifier ∷ _) = is_one_of (1 ∷ 2 ∷ 3 ∷ 5 ∷ 6 ∷ 7 ∷ 13 ∷ 14 ∷ 15 ∷ []) identifier

-- the records before the first control or relocation record
abbrev pub heads : List (List ℕ) → List (List ℕ)
heads records = take_while (λ b. not (is_of_segment b)) records

-- the fault is at the entry point, at a head record, or at what follows the heads where that is no record or scatter
-- or translation items are still to come
abbrev pub comes_first : List (List ℕ) → ℕ → Bool
comes_first records n =
    let first = heads records in
    nat_le n (length first)
    || n == length first + 1 && (length first == length records || is_incomplete (facts first))

-- the first fault, where it comes before a section that fits in none of the areas
unfoldable pub placing_bad : Entry → List (List ℕ) → Option Fault
placing_bad e records =
    option_and_then (λ (n, what). if comes_first records n then Some (n, what) else None) (first_bad e records)
