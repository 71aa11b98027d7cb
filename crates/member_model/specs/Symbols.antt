-- The symbol items of a member by their numbers, which count from 1, and its attribute. The kinds of symbols and the
-- flag of a relocation item follow GC28-6538; the items are this project's profile.
use Rattle.std.specs.Prelude.{ℕ, ◌+◌, ◌-◌, ◌/◌, ◌%◌, Bool, true, false, ◌&&◌, ◌==◌, nat_lt, if◌then◌else◌, List, map, filter, take, slice_get, count_by, Option, None}
use Rattle.std.specs.Option.{option_map_or}
use Rattle.le_bytes.specs.Names.{is_blank, name_eq, private_code_name, blank_common_name}
use Rattle.le_bytes.specs.declared.name.Name.{Name}
use Rattle.sym_mod.specs.Reserved.{is_reserved}
use Rattle.load_recs.specs.Kinds.{is_section_kind, is_text_kind, is_outside_kind}
use Rattle.load_recs.specs.Relocations as flags
use Rattle.load_recs.specs.declared.items.SymbolKind.{SymbolKind}
use Rattle.load_recs.specs.declared.items.SymbolKind.TheVariants.{Sd, Er, Lr, Pc, Cm, Pr, Null, Wx}
use Rattle.load_recs.specs.declared.items.SymbolItem.{SymbolItem}
use Rattle.load_recs.specs.declared.items.RldItem.{RldItem}
use Rattle.pds_directory.specs.Attributes.{has_overlay, has_scatter}
use Rattle.pds_directory.specs.declared.entry.Entry.{Entry}

-- ---- the attribute

-- the entry is that of a member in overlay format
abbrev pub is_overlay_member : Entry → Bool
is_overlay_member e = has_overlay e.attr

-- the entry is that of a member in scatter format
abbrev pub is_scatter_member : Entry → Bool
is_scatter_member e = has_scatter e.attr

-- ---- kinds

-- the kind is SD
abbrev pub is_sd : SymbolKind → Bool
is_sd Sd = true
is_sd _ = false

-- sections that have a name
abbrev pub is_named_kind : SymbolKind → Bool
is_named_kind Sd = true
is_named_kind Cm = true
is_named_kind _ = false

-- pseudo-registers
abbrev pub is_register_kind : SymbolKind → Bool
is_register_kind Pr = true
is_register_kind _ = false

-- what an address constant or a call may refer to
abbrev pub is_referable_kind : SymbolKind → Bool
is_referable_kind Pr = false
is_referable_kind Null = false
is_referable_kind _ = true

-- ---- items

-- the item is a section
abbrev pub is_section : SymbolItem → Bool
is_section x = is_section_kind x.kind

-- the address behind the section
abbrev pub end_of : SymbolItem → ℕ
end_of x = x.address + x.length

-- item n
abbrev pub symbol_at : List SymbolItem → ℕ → Option SymbolItem
symbol_at symbols n = if n == 0 then None else slice_get symbols (n - 1)

-- the item is a name that is not defined
abbrev pub is_outside : Option SymbolItem → Bool
is_outside symbol = option_map_or (λ x. is_outside_kind x.kind) symbol false

-- a section without a name: an SD whose name is blank is one, as any PC
abbrev pub is_private : SymbolItem → Bool
is_private x = is_text_kind x.kind && is_blank x.name

-- the name under which a section is printed: private code and blank common have names of their own there
abbrev pub printed_name : SymbolItem → Name
printed_name x =
    if is_blank x.name then (if is_text_kind x.kind then private_code_name else blank_common_name) else x.name

-- an SD of this name: a table of overlay is one
abbrev pub is_sd_named : Name → SymbolItem → Bool
is_sd_named name x = is_sd x.kind && name_eq x.name name

-- a table of overlay
abbrev pub is_table : SymbolItem → Bool
is_table x = is_sd x.kind && is_reserved x.name

-- the section of item n, which is n, or of a label the section that it names
abbrev pub section_as : ℕ → ℕ → SymbolKind → ℕ
section_as n owner Lr = owner
section_as n owner _ = n

-- the section of item n
abbrev pub section_of : List SymbolItem → ℕ → ℕ
section_of symbols n = option_map_or (λ x. section_as n x.length x.kind) (symbol_at symbols n) n

-- the place of item n among the sections, from 1, and 0 where it is none
abbrev pub section_rank : List SymbolItem → ℕ → ℕ
section_rank symbols n =
    if option_map_or is_section (symbol_at symbols n) false then count_by is_section (take n symbols) else 0

-- the address of item n in the module
abbrev pub address_in_module : List SymbolItem → ℕ → ℕ
address_in_module symbols n = option_map_or (λ x. x.address) (symbol_at symbols n) 0

-- the addresses of the sections in the module
abbrev pub section_addresses : List SymbolItem → List ℕ
section_addresses symbols = map (λ x. x.address) (filter is_section symbols)

-- ---- relocation items

-- 0 A-type, 1 V-type, 2 displacement, 3 total
abbrev pub field_kind : RldItem → ℕ
field_kind x = flags.field_kind x.flag

-- bits 4 and 5 of the flag are the length less one
abbrev pub field_length : RldItem → ℕ
field_length x = flags.field_length x.flag

-- bit 6 of the flag: the shift is subtracted
abbrev pub is_minus : RldItem → Bool
is_minus x = flags.is_minus x.flag

-- A-type and V-type
abbrev pub is_address_kind : RldItem → Bool
is_address_kind x = flags.is_address_kind x.flag

-- bit 0: the symbol is not defined
abbrev pub is_marked_outside : RldItem → Bool
is_marked_outside x = flags.is_marked_outside x.flag

-- both items stand at one place
abbrev pub same_field : RldItem → RldItem → Bool
same_field x y = x.p == y.p && x.address == y.address
