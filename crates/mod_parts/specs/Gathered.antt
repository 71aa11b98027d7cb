-- The parts of one segment, by the segment's number, the number of segments and its sections.
use Rattle.std.specs.Prelude.{ℕ, ◌≤◌, Bool, not, ◌&&◌, ◌==◌, nat_lt, if◌then◌else◌, List, [], ◌∷◌, ◌++◌, length, map}
use Rattle.sym_mod.specs.declared.program.Section.{Section}
use Rattle.sym_mod.specs.declared.program.Target.{Target}
use Rattle.relocate.specs.Listed.{table_of}
use Rattle.member_model.specs.Parts.{Part as Piece, SegmentTable as Segtab, OneSection, EntryTable as Entab}

-- the table of segments, which the root of an overlay program has
abbrev pub head_parts : ℕ → ℕ → List Piece
head_parts s count = if nat_lt 1 count && s == 1 then Segtab ∷ [] else []

-- the table of entries of a segment that has one
abbrev pub table_parts : ℕ → Bool → List Piece
table_parts s has = if has then Entab s ∷ [] else []

-- the parts of segment s of so many, with these sections
abbrev pub segment_parts : ℕ → ℕ → List ℕ → Bool → List Piece
segment_parts s count sections has = head_parts s count ++ map (λ i. OneSection i) sections ++ table_parts s has

-- the table of segment s has entries
abbrev pub has_entries : List (List Target) → ℕ → Bool
has_entries entries s = not (length (table_of entries s) == 0)

-- the section stands in one of so many segments
pub record IsSegmentTo (count : ℕ) (x : Section) : Type 0 where
  pub first : 1 ≤ x.segment
  pub last : x.segment ≤ count
