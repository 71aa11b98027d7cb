-- The relocation items that count in a run, and that a store touches a constant by them exactly where it does by the
-- program (this project's profile).
use Rattle.std.specs.Prelude.{◌≡◌, ◌⊎◌, ℕ, ◌+◌, ◌<◌, ◌≤◌, ◌==◌, List, [], ◌∷◌, filter, length}
use Rattle.std.specs.List.{AllByRecursion, list_any}
use Rattle.linking_model.specs.Places.{Laid, place, segment_of_section}
use Rattle.linking_model.specs.Run.{is_touched as is_touched_by_symbols}
use Rattle.member_model.specs.Facts.{Field}
use Rattle.member_model.specs.Parts.{OneSection, part_number}
use Rattle.member_model.specs.SymbolList.{part_symbol}
use Rattle.member_model.specs.ByteRun.{Spot, is_touched}
use Rattle.member_laws.specs.Linkable.{IsLinkable}
use Rattle.member_laws.specs.Gathered.{fields_in}

-- x is one of them
abbrev pub IsAmong : {X : Type 0} → X → List X → Type 0
IsAmong x [] = ⊥
IsAmong x (y ∷ ys) = (y ≡ x) ⊎ IsAmong x ys

-- the item is one of a segment of the program, as it is written
abbrev pub IsWritten : Laid → ℕ → Field → Type 0
IsWritten P n f = (1 ≤ f.segment) × (f.segment ≤ length P.tree) × IsAmong f (fields_in P n f.segment)

-- all items are of segments of the program, and of segment s they are those that are written
pub record HoldsFields (P : Laid) (n s : ℕ) (fields : List Field) : Type 0 where
  pub written : AllByRecursion (IsWritten P n) fields
  pub own : filter (λ f. f.segment == s) fields ≡ fields_in P n s

-- the spot of section i
abbrev pub spot_at : Laid → ℕ → Spot
spot_at P i = record { number = part_number P (OneSection i); item = part_symbol P (OneSection i) }

-- a store of some bytes into a section touches a constant by the relocation items where it does by the program
abbrev pub StoresTouchAlike : Type 0
StoresTouchAlike =
    (P : Laid) (n i o count : ℕ) (fields : List Field) → IsLinkable P → 1 ≤ n → i < length P.program.sections
    → HoldsFields P n (segment_of_section P.program i) fields
    → list_any (is_touched (spot_at P i) (place P i + o) count) fields ≡ is_touched_by_symbols P.program i o count
