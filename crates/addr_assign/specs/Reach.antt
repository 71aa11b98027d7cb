-- How far what stands in a segment reaches, and where in it the next begins, while sections are passed in order.
use Rattle.std.specs.Prelude.{ℕ, ◌+◌, ◌==◌, if◌then◌else◌, List, [], ◌++◌, length, sum_by, slice_get}
use Rattle.std.specs.Option.{option_map_or}
use Rattle.sym_mod.specs.declared.program.Program.{Program}
use Rattle.sym_mod.specs.declared.program.Section.{Section}
use Rattle.sym_mod.specs.declared.program.Target.{Target}
use Rattle.linking_model.specs.Numbers.{round8, extent}
use Rattle.linking_model.specs.Tree.{Tree}
use Rattle.linking_model.specs.Places.{Laid, head_lengths, head_room, section_lengths, entab_length, room_in}
use Rattle.addr_assign.specs.Sizes.{sizes_of}

abbrev pub laid : Program → Tree → List (List Target) → Laid
laid p tree entries = record { program = p; tree = tree; entries = entries }

-- how far segment s reaches with these sections, from its origin
unfoldable pub reach : Tree → List Section → ℕ → ℕ
reach tree xs s = extent (head_lengths tree s ++ section_lengths xs s)

-- how far a segment reaches with its table too
unfoldable pub with_table : ℕ → ℕ → ℕ
with_table reach entries = if entries == 0 then reach else round8 reach + entab_length entries

-- the number of entries in table i, counted from 0
unfoldable pub entries_at : List (List Target) → ℕ → ℕ
entries_at tables i = length (option_map_or (λ x. x) (slice_get tables i) [])

-- the address in segment s of what comes after these sections
unfoldable pub next_place : Tree → List ℕ → List Section → ℕ → ℕ
next_place tree origins xs s = sizes_of origins s + head_room tree s + sum_by (room_in s) xs

-- the segment of section i
unfoldable pub segment_at : List Section → ℕ → ℕ
segment_at sections i = option_map_or (λ x. x.segment) (slice_get sections i) 0
