-- In which table an entry is found, by the tables alone.
use Rattle.std.specs.Prelude.{ℕ, ◌-◌, Bool, if◌then◌else◌, List, [], find, reverse, position, slice_get, Option, Some, None, is_some}
use Rattle.std.specs.Option.{option_map_or}
use Rattle.sym_mod.specs.declared.program.Target.{Target}
use Rattle.linking_model.specs.Tree.{Tree, path}
use Rattle.linking_model.specs.Tables.{target_eq}

-- the table of segment s
abbrev pub table_of : List (List Target) → ℕ → List Target
table_of entries s = option_map_or (λ x. x) (slice_get entries (s - 1)) []

-- the table of segment s has the target
abbrev pub is_listed : List (List Target) → Target → ℕ → Bool
is_listed entries y s = is_some (position (target_eq y) (table_of entries s))

-- the segment, where its table has the target
abbrev pub if_listed : List (List Target) → Target → ℕ → Option ℕ
if_listed entries y s = if is_listed entries y s then Some s else None

-- the segment nearest the root, of those on the path of segment s, whose table has the target
unfoldable pub listing : Tree → List (List Target) → ℕ → Target → Option ℕ
listing tree entries s y = find (is_listed entries y) (reverse (path tree s))
