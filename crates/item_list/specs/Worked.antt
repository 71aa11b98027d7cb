-- Worked cases: the rows of the map and the cross-reference of a program (this project's profile).
use Rattle.std.specs.Prelude.{ℕ, Bool, List, flat_map, Option}
use Rattle.le_bytes.specs.declared.name.Name.{Name}
use Rattle.linking_model.specs.Places.{Laid}
use Rattle.member_model.specs.SymbolList.{symbols_written}
use Rattle.member_model.specs.Parts.{parts}
use Rattle.member_model.specs.Chunks.{part_items}
use Rattle.list_text.specs.declared.rows.MapRow.{MapRow}
use Rattle.list_text.specs.declared.rows.RefRow.{RefRow}
use Rattle.item_list.specs.Maps.{map_rows}
use Rattle.item_list.specs.References.{reference_rows}

-- the rows of the map of a program, at origin 0
abbrev pub map_of : Laid → List MapRow
map_of P = map_rows 0 (symbols_written P)

-- the rows of its cross-reference
abbrev pub references_of : Laid → List RefRow
references_of P = reference_rows (symbols_written P) (flat_map (part_items P) (parts P))

-- a row, by its parts
abbrev pub refers : Name → ℕ → Bool → Name → Option ℕ → RefRow
refers section offset branch target place =
    record { section = section; offset = offset; branch = branch; target = target; at = place }
