-- The bytes of a linked program, for any placement of its sections. What each kind of constant becomes follows
-- GC28-6538; that an unresolved name has address 0 is this project's profile.
use Rattle.std.specs.Prelude.{ℕ, ◌+◌, ◌-◌, ◌*◌, ◌%◌, ◌^◌, Bool, ◌&&◌, ◌==◌, if◌then◌else◌, List, fold, map, length, sum_by, find, slice_get, slice_index, position, Option, Some, None, unwrap_or, option_map}
use Rattle.std.specs.List.{range_with_len}
use Rattle.std.specs.Option.{option_map_or}
use Rattle.byteorder.specs.Endian.{big_number, big_bytes}
use Rattle.sym_mod.specs.declared.module.Kind.{Kind}
use Rattle.sym_mod.specs.declared.module.Kind.TheVariants.{Address, Branch, Displacement, Total as TotalKind}
use Rattle.sym_mod.specs.declared.program.Program.{Program}
use Rattle.sym_mod.specs.declared.program.Text.{Text}
use Rattle.sym_mod.specs.declared.program.Constant.{Constant}
use Rattle.sym_mod.specs.declared.program.Target.{Target}
use Rattle.sym_mod.specs.declared.program.Target.TheVariants.{Section as InSection, Label as AtLabel, Unresolved, Register as OfRegister}
use Rattle.linking_model.specs.Numbers.{is_among}
use Rattle.linking_model.specs.Places.{Laid, origin, place, table_place, entries_of, segment_of_section, length_of_section}
use Rattle.linking_model.specs.Points.{Point, displacements, registers_end}
use Rattle.linking_model.specs.Scattered.{Area, scattered}
use Rattle.linking_model.specs.Tables.{section_of_label, is_direct, holder, target_eq, only_target}

-- ---- placements

-- the address of each section, of each `$ENTAB` by its segment, of `$SEGTAB`, and of each segment's first byte
pub record Placement : Type 0 where
  pub section : ℕ → ℕ
  pub entab : ℕ → ℕ
  pub segtab : ℕ
  pub range : ℕ → ℕ

-- the module in one block
abbrev pub block : Laid → ℕ → Placement
block P at = record {
  section = λ i. at + place P i;
  entab = λ s. at + table_place P s;
  segtab = at;
  range = λ s. at + origin P s;
}

-- sections at these addresses, of a program without overlay, which has no tables
abbrev pub spread : List ℕ → Placement
spread addresses = record { section = slice_index addresses; entab = λ s. 0; segtab = 0; range = λ s. 0 }

-- the sections scattered over areas, none where one fits nowhere
abbrev pub scatter : Program → List Area → Option Placement
scatter p areas = option_map spread (scattered areas (map (λ x. x.length) p.sections))

-- ---- addresses

-- the offset of label i in its section
abbrev pub offset_of_label : Program → ℕ → ℕ
offset_of_label p i = option_map_or (λ x. x.offset) (slice_get p.labels i) 0

-- the address of a symbol, 0 where it is unresolved
abbrev pub address_of : Program → Placement → Target → ℕ
address_of p q (InSection i) = q.section i
address_of p q (AtLabel i) = q.section (section_of_label p i) + offset_of_label p i
address_of p q _ = 0

-- the address of an entry point
abbrev pub point_address : Placement → Point → ℕ
point_address q x = q.section x.section + x.offset

-- the address of the entry of y for a branch constant in segment a
abbrev pub entry_address : Laid → Placement → ℕ → Target → ℕ
entry_address P q a y =
    let b = unwrap_or (holder P.program P.tree a y) 0 in
    q.entab b + 8 + 12 * unwrap_or (position (target_eq y) (entries_of P b)) 0

-- what a branch constant in segment a becomes: the symbol's address, or that of its entry
abbrev pub branch_address : Laid → Placement → ℕ → Target → ℕ
branch_address P q a (Unresolved _) = 0
branch_address P q a y = if is_direct P.program P.tree a y then address_of P.program q y else entry_address P q a y

-- the displacement of a register, 0 for any other target
abbrev pub displacement_of : Program → Target → ℕ
displacement_of p (OfRegister r) = slice_index (displacements 0 p.registers) r
displacement_of p _ = 0

-- ---- bytes

-- the byte that text gives: the last one for this place, and 0 where there is none
unfoldable pub stored_byte : List Text → ℕ → ℕ → ℕ
stored_byte texts i o =
    fold
    (λ byte t. if t.section == i && is_among t.offset (length t.bytes) o then slice_index t.bytes (o - t.offset) else byte)
    0 texts

-- a number that is to minus from, modulo m
abbrev pub difference : ℕ → ℕ → ℕ → ℕ
difference m to from = to + (m - from % m)

-- what a term adds to the stored number, modulo m: how far its target has moved, or minus that
abbrev pub signed_difference : ℕ → Bool → ℕ → ℕ → ℕ
signed_difference m minus to from = if minus then difference m from to else difference m to from

-- the number that text gives for a constant
abbrev pub stored_number : Program → Constant → ℕ
stored_number p c = big_number c.length (map (stored_byte p.texts c.section) (range_with_len c.offset c.length))

-- a constant's number before it is cut to its length
abbrev pub number_for : Laid → Placement → Constant → Kind → ℕ
number_for P q c Address =
    stored_number P.program c
    + sum_by (λ t. signed_difference (256 ^ c.length) t.minus (address_of P.program q t.target) t.base) c.terms
number_for P q c Branch = branch_address P q (segment_of_section P.program c.section) (only_target c.terms)
number_for P q c Displacement = displacement_of P.program (only_target c.terms)
number_for P q c TotalKind = registers_end 0 P.program.registers

-- a constant's number, as it stands in its bytes
unfoldable pub number_in : Laid → Placement → Constant → ℕ
number_in P q c = number_for P q c c.kind % 256 ^ c.length

-- byte o of section i, in this constant or in none
abbrev pub byte_of : Laid → Placement → ℕ → ℕ → Option Constant → ℕ
byte_of P q i o None = stored_byte P.program.texts i o
byte_of P q i o (Some c) = slice_index (big_bytes c.length (number_in P q c)) (o - c.offset)

-- the constant has byte o of section i
abbrev pub covers : ℕ → ℕ → Constant → Bool
covers i o c = c.section == i && is_among c.offset c.length o

-- the constant in which byte o of section i lies
unfoldable pub constant_at : List Constant → ℕ → ℕ → Option Constant
constant_at constants i o = find (covers i o) constants

-- byte o of section i where these of the constants have their numbers, and the others what is stored
abbrev pub byte_with : List Constant → Laid → Placement → ℕ → ℕ → ℕ
byte_with constants P q i o = byte_of P q i o (constant_at constants i o)

-- byte o of section i of the linked program
unfoldable pub linked_byte : Laid → Placement → ℕ → ℕ → ℕ
linked_byte P q i o = byte_with P.program.constants P q i o

-- the bytes of section i of the linked program
abbrev pub linked_section : Laid → Placement → ℕ → List ℕ
linked_section P q i = map (linked_byte P q i) (range_with_len 0 (length_of_section P.program i))
