-- The rows of the map of a module, by its symbol items (this project's profile).
use Rattle.std.specs.Prelude.{ℕ, ◌+◌, ◌-◌, ◌<◌, ◌^◌, Bool, true, false, ◌&&◌, ◌==◌, nat_lt, nat_le, if◌then◌else◌, List, [], ◌∷◌, ◌++◌, length, map, filter, flat_map, slice_set, slice_index_or}
use Rattle.std.specs.List.{enumerate_from, range_with_len}
use Rattle.le_bytes.specs.Names.{is_blank}
use Rattle.load_recs.specs.declared.items.SymbolKind.{SymbolKind}
use Rattle.load_recs.specs.declared.items.SymbolKind.TheVariants as symbol
use Rattle.load_recs.specs.declared.items.SymbolItem.{SymbolItem}
use Rattle.member_model.specs.Symbols.{is_section, is_register_kind, printed_name}
use Rattle.list_text.specs.declared.rows.RowKind.{RowKind}
use Rattle.list_text.specs.declared.rows.RowKind.TheVariants.{Sd, Pc, Cm}
use Rattle.list_text.specs.declared.rows.MapRow.{MapRow}
use Rattle.list_text.specs.declared.rows.MapRow.TheVariants.{Section, Label, Register}

-- the address is a number of 32 bits where the module stands from `origin` on
pub record StandsFrom (origin : ℕ) (x : SymbolItem) : Type 0 where
  pub address_is : origin + x.address < 2 ^ 32

-- ---- the row of an item

-- a section of this kind, whose name is blank or not
abbrev pub kind_as : Bool → SymbolKind → RowKind
kind_as blank symbol.Cm = Cm
kind_as blank symbol.Pc = Pc
kind_as blank _ = if blank then Pc else Sd

abbrev pub row_kind : SymbolItem → RowKind
row_kind x = kind_as (is_blank x.name) x.kind

abbrev pub section_row : ℕ → SymbolItem → MapRow
section_row origin x = Section (printed_name x) (row_kind x) (origin + x.address) x.length x.segment

abbrev pub label_row : ℕ → SymbolItem → MapRow
label_row origin x = Label x.name (origin + x.address)

abbrev pub register_row : SymbolItem → MapRow
register_row x = Register x.name x.address x.length

-- ---- the rows

abbrev pub is_label_kind : SymbolKind → Bool
is_label_kind symbol.Lr = true
is_label_kind _ = false

-- a label of section n
abbrev pub is_label_of : ℕ → SymbolItem → Bool
is_label_of n x = is_label_kind x.kind && x.length == n

-- the rows of the labels of section n, in item order
abbrev pub label_rows : ℕ → List SymbolItem → ℕ → List MapRow
label_rows origin symbols n = map (label_row origin) (filter (is_label_of n) symbols)

-- these rows for each item
abbrev pub label_lists : ℕ → List SymbolItem → List (List MapRow)
label_lists origin symbols = map (label_rows origin symbols) (range_with_len 1 (length symbols))

-- the row of a section, and these of its labels; nothing for any other item
abbrev pub rows_with : ℕ → SymbolItem → List MapRow → List MapRow
rows_with origin x labels = if is_section x then section_row origin x ∷ labels else []

-- the rows of item n
abbrev pub rows_of : ℕ → List SymbolItem → ℕ × SymbolItem → List MapRow
rows_of origin symbols (n, x) = rows_with origin x (label_rows origin symbols n)

abbrev pub is_register : SymbolItem → Bool
is_register x = is_register_kind x.kind

-- sections in item order, each with its labels, and then the registers
unfoldable pub map_rows : ℕ → List SymbolItem → List MapRow
map_rows origin symbols =
    flat_map (rows_of origin symbols) (enumerate_from 1 symbols) ++ map register_row (filter is_register symbols)

-- ---- lists of labels, while items come in turn

-- with a row at the end of list n, from 1, where there is one
abbrev pub put_in : List (List MapRow) → ℕ → MapRow → List (List MapRow)
put_in lists n row =
    if nat_lt 0 n && nat_le n (length lists)
    then slice_set lists (n - 1) (slice_index_or lists (n - 1) [] ++ row ∷ [])
    else lists

abbrev pub noted_as : ℕ → List (List MapRow) → SymbolItem → SymbolKind → List (List MapRow)
noted_as origin lists x symbol.Lr = put_in lists x.length (label_row origin x)
noted_as origin lists x _ = lists

-- with the row of a label in the list of its section
unfoldable pub noted : ℕ → List (List MapRow) → SymbolItem → List (List MapRow)
noted origin lists x = noted_as origin lists x x.kind
