-- The map of a module: the line of its name, and the lines of its rows (this project's profile).
use Rattle.std.specs.Prelude.{ℕ, List, [], ◌∷◌, ◌++◌, flat_map, codes}
use Rattle.le_bytes.specs.declared.name.Name.{Name}
use Rattle.map_list.specs.Printed.{printed_name, a6, decimal, line}
use Rattle.list_text.specs.Padded.{padded_name}
use Rattle.list_text.specs.declared.rows.RowKind.{RowKind}
use Rattle.list_text.specs.declared.rows.RowKind.TheVariants.{Sd, Pc, Cm}
use Rattle.list_text.specs.declared.rows.MapRow.{MapRow}
use Rattle.list_text.specs.declared.rows.MapRow.TheVariants.{Section, Label, Register}

abbrev pub kind_text : RowKind → List ℕ
kind_text Sd = codes "SD"
kind_text Pc = codes "PC"
kind_text Cm = codes "CM"

-- a section: its name in eight columns, its kind, its address, its length and its segment
unfoldable pub section_line : Name → RowKind → ℕ → ℕ → ℕ → List ℕ
section_line name kind address size segment =
    line (padded_name name) (kind_text kind ∷ a6 address ∷ a6 size ∷ decimal segment ∷ [])

-- a label, two columns to the right of its section
unfoldable pub label_line : Name → ℕ → List ℕ
label_line name address = line (codes "  " ++ padded_name name) (codes "LR" ∷ a6 address ∷ [])

-- a register: its displacement and its length
unfoldable pub register_line : Name → ℕ → ℕ → List ℕ
register_line name displacement size =
    line (padded_name name) (codes "PR" ∷ a6 displacement ∷ a6 size ∷ [])

abbrev pub row_line : MapRow → List ℕ
row_line (Section name kind address size segment) = section_line name kind address size segment
row_line (Label name address) = label_line name address
row_line (Register name displacement size) = register_line name displacement size

unfoldable pub map_head : Name → List ℕ
map_head name = line (codes "MAP") (printed_name name ∷ [])

-- the map of a module of this name
unfoldable pub map_text : Name → List MapRow → List ℕ
map_text name rows = map_head name ++ flat_map row_line rows
