-- The bytes of sections after every constant has its number, by the bytes before and by the addresses of what
-- stands in the module.
use Rattle.std.specs.Prelude.{ℕ, ◌+◌, ◌-◌, ◌%◌, ◌^◌, List, length, map, take, drop, sum_by, slice_index}
use Rattle.std.specs.List.{range_with_len}
use Rattle.std.specs.Option.{option_map_or}
use Rattle.byteorder.specs.Endian.{big_number, big_bytes}
use Rattle.sym_mod.specs.declared.module.Kind.{Kind}
use Rattle.sym_mod.specs.declared.module.Kind.TheVariants.{Address, Branch, Displacement, Total as TotalKind}
use Rattle.sym_mod.specs.declared.program.Places.{Places}
use Rattle.sym_mod.specs.declared.program.Constant.{Constant}
use Rattle.sym_mod.specs.declared.program.Target.{Target}
use Rattle.sym_mod.specs.declared.program.Target.TheVariants.{Register as OfRegister}
use Rattle.linking_model.specs.Places.{Laid, segment_of_section}
use Rattle.linking_model.specs.Tables.{only_target}
use Rattle.linking_model.specs.Linked.{Placement, address_of, branch_address, signed_difference, constant_at}
use Rattle.text_store.specs.Content.{section_of}

-- the addresses as a placement: `$SEGTAB` stands first in the module
abbrev pub placed_at : Places → Placement
placed_at a = record {
  section = slice_index a.sections;
  entab = λ s. slice_index a.tables (s - 1);
  segtab = 0;
  range = λ s. slice_index a.origins (s - 1);
}

-- the displacement of a register, 0 of any other target
abbrev pub displacement_at : Places → Target → ℕ
displacement_at a (OfRegister r) = slice_index a.registers r
displacement_at a _ = 0

-- ---- one constant

-- the number of a constant in which a number stood, before it is cut to its length
abbrev pub number_over : Laid → Places → Constant → Kind → ℕ → ℕ
number_over P a c Address stored =
    stored + sum_by (λ t. signed_difference (256 ^ c.length) t.minus (address_of P.program (placed_at a) t.target) t.base) c.terms
number_over P a c Branch stored = branch_address P (placed_at a) (segment_of_section P.program c.section) (only_target c.terms)
number_over P a c Displacement stored = displacement_at a (only_target c.terms)
number_over P a c TotalKind stored = a.total

-- the bytes of a constant, by those that stood there
unfoldable pub new_field : Laid → Places → Constant → List ℕ → List ℕ
new_field P a c field = big_bytes c.length (number_over P a c c.kind (big_number c.length field) % 256 ^ c.length)

-- the bytes of the content in which a constant stands
abbrev pub field_of : List (List ℕ) → Constant → List ℕ
field_of content c = take c.length (drop c.offset (section_of content c.section))

-- ---- all of them

-- byte o of section i, where a function gives the bytes of each constant by those that stood there
abbrev pub byte_by : (Constant → List ℕ → List ℕ) → List Constant → List (List ℕ) → ℕ → ℕ → ℕ
byte_by new constants content i o =
    option_map_or (λ c. slice_index (new c (field_of content c)) (o - c.offset)) (constant_at constants i o)
    (slice_index (section_of content i) o)

-- the bytes of section i
abbrev pub section_by : (Constant → List ℕ → List ℕ) → List Constant → List (List ℕ) → ℕ → List ℕ
section_by new constants content i = map (byte_by new constants content i) (range_with_len 0 (length (section_of content i)))

-- the bytes of all sections
abbrev pub content_by : (Constant → List ℕ → List ℕ) → List Constant → List (List ℕ) → List (List ℕ)
content_by new constants content = map (section_by new constants content) (range_with_len 0 (length content))

-- the content with every constant's number in it, and all other bytes as they were
unfoldable pub relocated : Laid → Places → List (List ℕ) → List (List ℕ)
relocated P a content = content_by (new_field P a) P.program.constants content
