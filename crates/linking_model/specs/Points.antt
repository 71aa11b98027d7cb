-- Registers, and where a program is entered. That registers of one name are one and stand one after another, each
-- at its alignment, and that ENTRY comes before what END cards say, follows GC28-6538.
use Rattle.std.specs.Prelude.{ℕ, ◌+◌, ◌-◌, ◌*◌, ◌/◌, ◌==◌, if◌then◌else◌, List, [], ◌∷◌, filter_map, position, find, slice_get, Option, Some, None, option_map, option_and_then, unwrap_or}
use Rattle.std.specs.Option.{option_or}
use Rattle.le_bytes.specs.declared.name.Name.{Name}
use Rattle.le_bytes.specs.Names.{name_eq}
use Rattle.sym_mod.specs.declared.program.Program.{Program}
use Rattle.sym_mod.specs.declared.program.Register.{Register}
use Rattle.sym_mod.specs.declared.program.StartAt.{StartAt}
use Rattle.sym_mod.specs.declared.program.StartAt.TheVariants.{At as StartsAt, Named as StartsAtName}
use Rattle.linking_model.specs.Places.{segment_of_section}
use Rattle.linking_model.specs.Settled.{is_section_named}

-- ---- registers

-- the least multiple of the alignment that is not below n
abbrev pub next_multiple : ℕ → ℕ → ℕ
next_multiple n align = (n + (align - 1)) / align * align

-- where the registers stand, from a displacement on
unfoldable pub displacements : ℕ → List Register → List ℕ
displacements at [] = []
displacements at (r ∷ rs) = let d = next_multiple at r.align in d ∷ displacements (d + r.length) rs

-- the end of the last
unfoldable pub registers_end : ℕ → List Register → ℕ
registers_end at [] = at
registers_end at (r ∷ rs) = registers_end (next_multiple at r.align + r.length) rs

-- ---- entry points

-- a byte of a section, or its end
pub record Point : Type 0 where
  pub section : ℕ
  pub offset : ℕ

-- a place in the root
abbrev pub in_root : Program → Point → Option Point
in_root p x = if segment_of_section p x.section == 1 then Some x else None

-- the first byte of the named section
abbrev pub section_point : Program → Name → Option Point
section_point p name =
    option_map (λ i. record { section = i; offset = 0 }) (position (is_section_named name) p.sections)

-- the place of the label
abbrev pub label_point : Program → Name → Option Point
label_point p name =
    option_map (λ x. record { section = x.section; offset = x.offset }) (find (λ x. name_eq x.name name) p.labels)

-- the place of a name that is defined in the root
abbrev pub point_of : Program → Name → Option Point
point_of p name = option_and_then (in_root p) (option_or (section_point p name) (label_point p name))

-- the place of an entry that a module gives, where that is in the root
abbrev pub start_point : Program → StartAt → Option Point
start_point p (StartsAt i offset) = in_root p (record { section = i; offset = offset })
start_point p (StartsAtName name) = point_of p name

-- the first byte of the first section of the root
abbrev pub first_of_root : Program → Point
first_of_root p = record { section = unwrap_or (position (λ x. x.segment == 1) p.sections) 0; offset = 0 }

-- without an ENTRY statement: the first entry that a module gives and that is in the root, else the root's first byte
abbrev pub default_point : Program → Point
default_point p = unwrap_or (slice_get (filter_map (start_point p) p.starts) 0) (first_of_root p)

-- the entry point with or without the name of an ENTRY statement, none where that name is not defined in the root
unfoldable pub entry_point : Program → Option Name → Option Point
entry_point p None = Some (default_point p)
entry_point p (Some name) = point_of p name

-- an alias that is defined in the root enters there, and any other where the program is entered
unfoldable pub alias_point : Program → Point → Name → Point
alias_point p main name = unwrap_or (point_of p name) main
