-- The names of the overlay tables.
use Rattle.std.specs.Prelude.{Bool, ◌||◌, [], ◌∷◌}
use Rattle.le_bytes.specs.declared.name.Name.{Name}
use Rattle.le_bytes.specs.Names.{name_eq}

-- `$SEGTAB`
abbrev pub segment_table : Name
segment_table = record { 0 = 91 ∷ 226 ∷ 197 ∷ 199 ∷ 227 ∷ 193 ∷ 194 ∷ 64 ∷ [] }

-- `$ENTAB`
abbrev pub entry_table : Name
entry_table = record { 0 = 91 ∷ 197 ∷ 213 ∷ 227 ∷ 193 ∷ 194 ∷ 64 ∷ 64 ∷ [] }

-- the name is that of an overlay table
abbrev pub is_reserved : Name → Bool
is_reserved name = name_eq name segment_table || name_eq name entry_table
