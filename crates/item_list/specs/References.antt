-- The rows of the cross-reference of a module, by its symbol items and relocation items (this project's profile).
use Rattle.std.specs.Prelude.{ℕ, ◌-◌, Bool, false, not, ◌&&◌, if◌then◌else◌, List, map, filter, Option, Some, None}
use Rattle.std.specs.Option.{option_map_or}
use Rattle.le_bytes.specs.Names.{blank_bytes}
use Rattle.le_bytes.specs.declared.name.Name.{Name}
use Rattle.load_recs.specs.Kinds.{is_outside_kind}
use Rattle.load_recs.specs.Relocations.{is_branch}
use Rattle.load_recs.specs.declared.items.SymbolItem.{SymbolItem}
use Rattle.load_recs.specs.declared.items.RldItem.{RldItem}
use Rattle.member_model.specs.Symbols.{symbol_at, printed_name, address_in_module, is_table, is_address_kind}
use Rattle.list_text.specs.declared.rows.RefRow.{RefRow}

-- the printed name of item n, blanks where there is none
abbrev pub name_at : List SymbolItem → ℕ → Name
name_at symbols n = option_map_or printed_name (symbol_at symbols n) (record { 0 = blank_bytes })

-- the address of a symbol in the module, none where it is not defined
abbrev pub defined_at : SymbolItem → Option ℕ
defined_at x = if is_outside_kind x.kind then None else Some x.address

abbrev pub target_at : List SymbolItem → ℕ → Option ℕ
target_at symbols n = option_map_or defined_at (symbol_at symbols n) None

-- item n is a table of overlay
abbrev pub stands_in_table : List SymbolItem → ℕ → Bool
stands_in_table symbols n = option_map_or is_table (symbol_at symbols n) false

-- the item is a term of an A-type or V-type constant of a section
abbrev pub is_constant : List SymbolItem → RldItem → Bool
is_constant symbols x = is_address_kind x && not (stands_in_table symbols x.p)

-- the row of a term
abbrev pub reference_row : List SymbolItem → RldItem → RefRow
reference_row symbols x = record {
  section = name_at symbols x.p;
  offset = x.address - address_in_module symbols x.p;
  branch = is_branch x.flag;
  target = name_at symbols x.r;
  at = target_at symbols x.r;
}

-- the rows of relocation items, in their order
unfoldable pub reference_rows : List SymbolItem → List RldItem → List RefRow
reference_rows symbols items = map (reference_row symbols) (filter (is_constant symbols) items)
