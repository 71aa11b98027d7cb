-- The segments of sections. That INSERT moves a section, and that a common area stands where all that use it
-- can reach it, follows GC28-6538.
use Rattle.std.specs.Prelude.{ℕ, Bool, not, ◌&&◌, ◌==◌, List, map, find, Option, option_map}
use Rattle.std.specs.List.{list_any}
use Rattle.std.specs.Option.{option_map_or}
use Rattle.le_bytes.specs.declared.name.Name.{Name}
use Rattle.le_bytes.specs.Names.{name_eq}
use Rattle.sym_mod.specs.declared.program.Program.{Program}
use Rattle.sym_mod.specs.declared.program.Section.{Section}
use Rattle.sym_mod.specs.declared.program.SecKind.{SecKind}
use Rattle.sym_mod.specs.declared.program.SecKind.TheVariants.{Sd, Pc, Cm}
use Rattle.sym_mod.specs.Kinds.{is_private}
use Rattle.linking_model.specs.Tree.{Tree, lowest_common}

-- the names of INSERT statements, each with the segment that was current
abbrev pub Inserts : Type 0
Inserts = List (Name × ℕ)

-- the segment of the first INSERT of the name, else the other
abbrev pub inserted_or : Inserts → Name → ℕ → ℕ
inserted_or inserts name other = option_map_or (λ x. x.1) (find (λ x. name_eq x.0 name) inserts) other

-- an SD or PC stands where its module was added, an area in the lowest segment that is on the path of all that
-- brought it; the first INSERT of the name moves it
abbrev pub settled_segment : Tree → Inserts → Section → SecKind → ℕ
settled_segment tree inserts x Sd = inserted_or inserts x.name x.segment
settled_segment tree inserts x Pc = x.segment
settled_segment tree inserts x Cm = inserted_or inserts x.name (lowest_common tree x.users)

-- the program with the segments of its sections
unfoldable pub settled : Tree → Inserts → Program → Program
settled tree inserts p =
    record p { sections = map (λ (x : Section). record x { segment = settled_segment tree inserts x x.kind }) p.sections }

-- a section of the name that is no private one
abbrev pub is_section_named : Name → Section → Bool
is_section_named name x = not (is_private x.kind) && name_eq x.name name

-- the first name in an INSERT that is no named section
abbrev pub unknown_insert : Program → Inserts → Option Name
unknown_insert p inserts =
    option_map (λ x. x.0) (find (λ x. not (list_any (is_section_named x.0) p.sections)) inserts)

-- some section stands in the root
abbrev pub has_root_section : Program → Bool
has_root_section p = list_any (λ x. x.segment == 1) p.sections
