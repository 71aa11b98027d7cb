-- The symbolic module of a member. Its tables of overlay go, as an edit lets sections go: with their text, their
-- constants and their labels, and what refers to these refers to a name. That a load module may be linked again follows
-- GC28-6538; what is kept of one is this project's profile.
use Rattle.std.specs.Prelude.{ℕ, ◌+◌, ◌-◌, Bool, true, false, not, ◌==◌, if◌then◌else◌, List, map, filter, length, take, count_by, Option, Some}
use Rattle.std.specs.Option.{option_map_or}
use Rattle.le_bytes.specs.Names.{blank_bytes, is_blank}
use Rattle.le_bytes.specs.declared.name.Name.{Name}
use Rattle.sym_mod.specs.declared.module.Kind.{Kind}
use Rattle.sym_mod.specs.declared.module.Kind.TheVariants.{Address, Branch, Displacement, Total as TotalKind}
use Rattle.sym_mod.specs.declared.module.Item.{Item}
use Rattle.sym_mod.specs.declared.module.ItemKind.{ItemKind}
use Rattle.sym_mod.specs.declared.module.ItemKind.TheVariants as item
use Rattle.sym_mod.specs.declared.module.Frag.{Frag}
use Rattle.sym_mod.specs.declared.module.SymConst.{SymConst}
use Rattle.sym_mod.specs.declared.module.SymTerm.{SymTerm}
use Rattle.sym_mod.specs.declared.module.SymTarget.TheVariants.{Own, Named, Register as InRegister, Total as OfAll}
use Rattle.sym_mod.specs.declared.module.SymEntry.{SymEntry}
use Rattle.sym_mod.specs.declared.module.SymEntry.TheVariants.{None as NoEntry, At}
use Rattle.sym_mod.specs.declared.module.SymModule.{SymModule}
use Rattle.pds_directory.specs.declared.entry.Entry.{Entry}
use Rattle.load_recs.specs.declared.items.SymbolKind.{SymbolKind}
use Rattle.load_recs.specs.declared.items.SymbolKind.TheVariants.{Sd, Lr, Pc, Cm, Pr, Null, Wx}
use Rattle.load_recs.specs.declared.items.SymbolItem.{SymbolItem}
use Rattle.load_recs.specs.declared.items.RldItem.{RldItem}
use Rattle.linking_model.specs.Names.{firsts}
use Rattle.load_recs.specs.Kinds.{is_outside_kind}
use Rattle.member_model.specs.Symbols.{is_table, symbol_at, address_in_module, field_kind, field_length, is_minus, same_field}
use Rattle.member_model.specs.Facts.{Facts, Text, facts}

-- ---- what goes

-- an item of this kind is left out
abbrev pub is_gone_as : List SymbolItem → SymbolItem → SymbolKind → Bool
is_gone_as symbols x Lr = option_map_or is_table (symbol_at symbols x.length) false
is_gone_as symbols x Null = true
is_gone_as symbols x _ = is_table x

-- null items, and tables with their labels, are left out
abbrev pub is_gone : List SymbolItem → SymbolItem → Bool
is_gone symbols x = is_gone_as symbols x x.kind

-- item n is not left out
abbrev pub is_kept_at : List SymbolItem → ℕ → Bool
is_kept_at symbols n = option_map_or (λ x. not (is_gone symbols x)) (symbol_at symbols n) false

-- the number in the module, from 0, of item n
abbrev pub new_number : List SymbolItem → ℕ → ℕ
new_number symbols n = count_by (λ x. not (is_gone symbols x)) (take (n - 1) symbols)

-- ---- items

-- an item that is neither a label nor a register
abbrev pub plain_item : Name → ItemKind → ℕ → ℕ → Item
plain_item name kind base length = record { name = name; kind = kind; base = base; length = length; owner = 0; align = 0 }

-- a section without a name
abbrev pub private_item : SymbolItem → Item
private_item x = plain_item (record { 0 = blank_bytes }) item.Pc x.address x.length

-- the base of a register and the length of a reference or label count for nothing
abbrev pub item_as : List SymbolItem → SymbolItem → SymbolKind → Item
item_as symbols x Sd = if is_blank x.name then private_item x else plain_item x.name item.Sd x.address x.length
item_as symbols x Pc = private_item x
item_as symbols x Cm = plain_item x.name item.Cm x.address x.length
item_as symbols x Lr = record (plain_item x.name item.Label x.address 0) { owner = new_number symbols x.length }
item_as symbols x Pr = record (plain_item x.name item.Register 0 x.length) { align = x.segment + 1 }
item_as symbols x Wx = plain_item x.name item.Wx 0 0
item_as symbols x _ = plain_item x.name item.Er 0 0

-- the items of the module
abbrev pub items_of : List SymbolItem → List Item
items_of symbols = map (λ x. item_as symbols x x.kind) (filter (λ x. not (is_gone symbols x)) symbols)

-- ---- text

-- a text record as text of its section
abbrev pub fragment_of : Facts → Text → Frag
fragment_of F t = record {
  item = new_number F.symbols t.section;
  offset = t.address - address_in_module F.symbols t.section;
  bytes = t.bytes;
}

-- the text of the module, in the order of its records
abbrev pub fragments_of : Facts → List Frag
fragments_of F = map (fragment_of F) (filter (λ t. is_kept_at F.symbols t.section) F.texts)

-- ---- constants

-- the kind of a constant by the kind of its items
abbrev pub kind_of_field : ℕ → Kind
kind_of_field n = if n == 0 then Address else (if n == 1 then Branch else (if n == 2 then Displacement else TotalKind))

-- what an address or a call refers to: an item that is kept and defined, or a name
abbrev pub reference : List SymbolItem → RldItem → SymbolItem → SymTerm
reference symbols x y =
    if is_outside_kind y.kind then record { minus = is_minus x; target = Named y.name; base = 0 }
    else (if is_gone symbols y then record { minus = is_minus x; target = Named y.name; base = y.address }
    else record { minus = is_minus x; target = Own (new_number symbols x.r); base = y.address })

-- what an item of this kind adds, with this symbol
abbrev pub term_for : List SymbolItem → RldItem → Kind → Option SymbolItem → SymTerm
term_for symbols x Displacement (Some y) = record { minus = false; target = InRegister y.name; base = 0 }
term_for symbols x Address (Some y) = reference symbols x y
term_for symbols x Branch (Some y) = reference symbols x y
term_for symbols x _ _ = record { minus = false; target = OfAll; base = 0 }

-- what an item adds
abbrev pub term_of : List SymbolItem → RldItem → SymTerm
term_of symbols x = term_for symbols x (kind_of_field (field_kind x)) (symbol_at symbols x.r)

-- the constant of all items of the field of x
abbrev pub constant_of : Facts → List RldItem → RldItem → SymConst
constant_of F items x = record {
  item = new_number F.symbols x.p;
  offset = x.address - address_in_module F.symbols x.p;
  length = field_length x;
  kind = kind_of_field (field_kind x);
  terms = map (term_of F.symbols) (filter (same_field x) items);
}

-- the relocation items whose sections are not left out
abbrev pub kept_items : Facts → List RldItem
kept_items F = filter (λ x. is_kept_at F.symbols x.p) (map (λ x. x.item) F.fields)

-- a constant for each field, in the order of their first items
abbrev pub constants_of : Facts → List SymConst
constants_of F = map (constant_of F (kept_items F)) (firsts same_field (kept_items F))

-- ---- the module

-- the entry of the directory, where its section is not left out
abbrev pub entry_of : Facts → Entry → SymEntry
entry_of F e =
    if is_kept_at F.symbols e.entry_section
    then At (new_number F.symbols e.entry_section) (e.entry - address_in_module F.symbols e.entry_section) else NoEntry

-- the symbolic module of a member
unfoldable pub module_of : Entry → List (List ℕ) → SymModule
module_of e records =
    let F = facts records in
    record { items = items_of F.symbols; fragments = fragments_of F; constants = constants_of F; entry = entry_of F e }
