-- Parts and targets of a program.
use Rattle.std.specs.Prelude.{ℕ, ◌<◌, ◌≤◌, ⊤, length}
use Rattle.sym_mod.specs.declared.program.Program.{Program}
use Rattle.sym_mod.specs.declared.program.Target.{Target}
use Rattle.sym_mod.specs.declared.program.Target.TheVariants.{Register as OfRegister, Total}
use Rattle.sym_mod.specs.Sound.{IsSymbolOf}
use Rattle.linking_model.specs.Places.{Laid}
use Rattle.member_model.specs.Parts.{Part as Piece, SegmentTable as Segtab, OneSection, EntryTable as Entab}
use Rattle.mod_parts.specs.declared.part.Part.{Part}
use Rattle.mod_parts.specs.declared.part.Part.TheVariants.{SegmentTable, Section, EntryTable}

-- the part as the definitions of members speak of it
abbrev pub seen : Part → Piece
seen SegmentTable = Segtab
seen (Section i) = OneSection i
seen (EntryTable s) = Entab s

-- the table of segments, one of so many sections, or the table of one of so many segments
abbrev pub IsAmong : ℕ → ℕ → Piece → Type 0
IsAmong sections tables Segtab = ⊤
IsAmong sections tables (OneSection i) = i < sections
IsAmong sections tables (Entab s) = (1 ≤ s) × (s ≤ tables)

-- the table of segments, a section of the program, or the table of a segment, whether it is there or not
abbrev pub IsPartOf : Laid → Piece → Type 0
IsPartOf P x = IsAmong (length P.program.sections) (length P.tree) x

-- a section, a label, an unresolved name or a register of the program, or the total
abbrev pub IsTargetOf : Program → Target → Type 0
IsTargetOf p (OfRegister i) = i < length p.registers
IsTargetOf p Total = ⊤
IsTargetOf p y = IsSymbolOf p y
