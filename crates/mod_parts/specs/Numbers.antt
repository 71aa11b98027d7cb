-- The item numbers of parts, as they are kept.
use Rattle.std.specs.Prelude.{◌≡◌, ℕ, ◌+◌, ◌-◌, if◌then◌else◌, List, [], ◌∷◌, slice_index, replicate}
use Rattle.member_model.specs.Parts.{Part as Piece, SegmentTable as Segtab, OneSection, EntryTable as Entab, part_eq}
use Rattle.mod_parts.specs.declared.numbers.Numbers.{Numbers}

-- the number that is kept for a part
abbrev pub number_in : Numbers → Piece → ℕ
number_in numbers Segtab = numbers.segment_table
number_in numbers (OneSection i) = slice_index numbers.sections i
number_in numbers (Entab s) = slice_index numbers.tables (s - 1)

-- no number is kept, of so many sections and tables
pub record HoldsZeros (numbers : Numbers) (sections tables : ℕ) : Type 0 where
  pub segtab : numbers.segment_table ≡ 0
  pub of_sections : numbers.sections ≡ replicate sections 0
  pub of_tables : numbers.tables ≡ replicate tables 0

-- the number of a part among these, of which the first has the number after `before`, and another where it is none
-- of them
unfoldable pub number_among : ℕ → List Piece → Piece → ℕ → ℕ
number_among before [] x other = other
number_among before (y ∷ ys) x other = if part_eq x y then before + 1 else number_among (before + 1) ys x other
