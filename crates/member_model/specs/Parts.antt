-- What a written member consists of: the sections and overlay tables of a program, in the order of their symbol
-- items, which is by segment and in a segment by address (this project's profile).
use Rattle.std.specs.Prelude.{ℕ, ◌+◌, Bool, true, false, ◌==◌, if◌then◌else◌, List, [], ◌∷◌, ◌++◌, map, flat_map, length, slice_get, position, unwrap_or, option_map}
use Rattle.std.specs.Option.{option_map_or}
use Rattle.le_bytes.specs.Names.{blank_bytes}
use Rattle.le_bytes.specs.declared.name.Name.{Name}
use Rattle.sym_mod.specs.Reserved.{segment_table, entry_table}
use Rattle.sym_mod.specs.declared.program.SecKind.{SecKind}
use Rattle.sym_mod.specs.declared.program.SecKind.TheVariants.{Sd, Pc}
use Rattle.sym_mod.specs.declared.program.Target.{Target}
use Rattle.sym_mod.specs.declared.program.Target.TheVariants.{Section as InSection, Label as AtLabel, Unresolved, Register as OfRegister, Total}
use Rattle.linking_model.specs.Tree.{segments}
use Rattle.linking_model.specs.Places.{Laid, has_segtab, entry_count, segtab_length, entab_length, place, table_place, segment_of_section, length_of_section}
use Rattle.linking_model.specs.TableBytes.{segtab_bytes, entab_bytes}
use Rattle.linking_model.specs.Linked.{block, linked_section, address_of}
use Rattle.linking_model.specs.Run.{sections_in}

-- the segment table, a section by its number in the program, or the entry table of a segment
pub data Part : Type 0 where
  SegmentTable : Part
  OneSection : ℕ → Part
  EntryTable : ℕ → Part

-- the parts of segment s: the segment table, the sections, and the entry table
abbrev pub parts_in : Laid → ℕ → List Part
parts_in P s =
    (if has_segtab P.tree s then SegmentTable ∷ [] else [])
    ++ map (λ i. OneSection i) (sections_in P.program s)
    ++ (if entry_count P s == 0 then [] else EntryTable s ∷ [])

-- all parts, numbered from 1
abbrev pub parts : Laid → List Part
parts P = flat_map (parts_in P) (segments P.tree)

-- ---- what a part is

-- the kind of section i
abbrev pub section_kind : Laid → ℕ → SecKind
section_kind P i = option_map_or (λ x. x.kind) (slice_get P.program.sections i) Sd

-- the name that private code has
abbrev pub blank_name : Name
blank_name = record { 0 = blank_bytes }

-- the name of a section of this kind
abbrev pub name_as : SecKind → Name → Name
name_as Pc name = blank_name
name_as kind name = name

-- the name of section i
abbrev pub section_name : Laid → ℕ → Name
section_name P i = option_map_or (λ x. name_as x.kind x.name) (slice_get P.program.sections i) blank_name

-- the name of a part
abbrev pub part_name : Laid → Part → Name
part_name P SegmentTable = segment_table
part_name P (OneSection i) = section_name P i
part_name P (EntryTable s) = entry_table

-- the kind of a part: tables are SD
abbrev pub part_kind : Laid → Part → SecKind
part_kind P (OneSection i) = section_kind P i
part_kind P table = Sd

-- the address of a part in the module
abbrev pub part_place : Laid → Part → ℕ
part_place P SegmentTable = 0
part_place P (OneSection i) = place P i
part_place P (EntryTable s) = table_place P s

-- the segment of a part
abbrev pub part_segment : Laid → Part → ℕ
part_segment P SegmentTable = 1
part_segment P (OneSection i) = segment_of_section P.program i
part_segment P (EntryTable s) = s

-- the length of a part
abbrev pub part_length : Laid → Part → ℕ
part_length P SegmentTable = segtab_length P.tree
part_length P (OneSection i) = length_of_section P.program i
part_length P (EntryTable s) = entab_length (entry_count P s)

-- linked at origin 0, with segment 1 alone resident
abbrev pub part_bytes : Laid → Part → List ℕ
part_bytes P SegmentTable = segtab_bytes P.tree (1 ∷ [])
part_bytes P (OneSection i) = linked_section P (block P 0) i
part_bytes P (EntryTable s) = entab_bytes P (address_of P.program (block P 0)) s

-- ---- item numbers

-- two parts are the same
abbrev pub part_eq : Part → Part → Bool
part_eq SegmentTable SegmentTable = true
part_eq (OneSection i) (OneSection j) = i == j
part_eq (EntryTable s) (EntryTable t) = s == t
part_eq _ _ = false

-- the item number of a part
abbrev pub part_number : Laid → Part → ℕ
part_number P x = unwrap_or (option_map (λ k. k + 1) (position (part_eq x) (parts P))) 0

-- the item number of a symbol: parts, labels, unresolved names and registers follow one another; 0 for the total
unfoldable pub target_number : Laid → Target → ℕ
target_number P (InSection i) = part_number P (OneSection i)
target_number P (AtLabel i) = length (parts P) + i + 1
target_number P (Unresolved i) = length (parts P) + length P.program.labels + i + 1
target_number P (OfRegister i) = length (parts P) + length P.program.labels + length P.program.unresolved + i + 1
target_number P Total = 0
