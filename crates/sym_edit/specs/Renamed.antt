-- A module in which one name stands for another. Registers have names of their own, which stay.
use Rattle.std.specs.Prelude.{if◌then◌else◌, map}
use Rattle.le_bytes.specs.declared.name.Name.{Name}
use Rattle.le_bytes.specs.Names.{name_eq}
use Rattle.sym_mod.specs.declared.module.Item.{Item}
use Rattle.sym_mod.specs.declared.module.SymConst.{SymConst}
use Rattle.sym_mod.specs.declared.module.SymTerm.{SymTerm}
use Rattle.sym_mod.specs.declared.module.SymTarget.{SymTarget}
use Rattle.sym_mod.specs.declared.module.SymTarget.TheVariants.{Named}
use Rattle.sym_mod.specs.declared.module.SymEntry.{SymEntry}
use Rattle.sym_mod.specs.declared.module.SymEntry.TheVariants.{Named as AtName}
use Rattle.sym_mod.specs.declared.module.SymModule.{SymModule}
use Rattle.sym_mod.specs.Kinds.{is_register}

-- a name; the new one in place of the old one
unfoldable pub new_name : Name → Name → Name → Name
new_name old new name = if name_eq name old then new else name

-- an item
unfoldable pub item_renamed : Name → Name → Item → Item
item_renamed old new x = if is_register x.kind then x else record x { name = new_name old new x.name }

-- a target
unfoldable pub target_renamed : Name → Name → SymTarget → SymTarget
target_renamed old new (Named name) = Named (new_name old new name)
target_renamed old new target = target

-- a term
abbrev pub term_renamed : Name → Name → SymTerm → SymTerm
term_renamed old new t = record t { target = target_renamed old new t.target }

-- a constant
unfoldable pub constant_renamed : Name → Name → SymConst → SymConst
constant_renamed old new c = record c { terms = map (term_renamed old new) c.terms }

-- an entry
unfoldable pub entry_renamed : Name → Name → SymEntry → SymEntry
entry_renamed old new (AtName name) = AtName (new_name old new name)
entry_renamed old new entry = entry

-- a module: sections, labels and references, and the entry
unfoldable pub renamed : Name → Name → SymModule → SymModule
renamed old new m = record {
  items = map (item_renamed old new) m.items;
  fragments = m.fragments;
  constants = map (constant_renamed old new) m.constants;
  entry = entry_renamed old new m.entry;
}
