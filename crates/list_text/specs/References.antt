-- The cross-reference of a module: a line for each term of an address or branch constant (this project's profile).
use Rattle.std.specs.Prelude.{ℕ, Bool, if◌then◌else◌, List, [], ◌∷◌, ◌++◌, Option, Some, None, codes}
use Rattle.le_bytes.specs.declared.name.Name.{Name}
use Rattle.map_list.specs.Printed.{printed_name, a6, line}
use Rattle.list_text.specs.declared.rows.RefRow.{RefRow}

-- the type of the constant
abbrev pub type_text : Bool → List ℕ
type_text branch = if branch then codes "V" else codes "A"

-- a place in a section
abbrev pub place_text : Name → ℕ → List ℕ
place_text section offset = printed_name section ++ 43 ∷ a6 offset

-- where the target is
abbrev pub where_text : Option ℕ → List ℕ
where_text (Some address) = a6 address
where_text None = codes "UNRESOLVED"

unfoldable pub reference_line : RefRow → List ℕ
reference_line row =
    line (codes "REF")
    (place_text row.section row.offset ∷ type_text row.branch ∷ printed_name row.target ∷ where_text row.at ∷ [])
