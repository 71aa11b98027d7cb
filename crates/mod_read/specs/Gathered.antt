-- What a member holds of which the module is made, and the module.
use Rattle.std.specs.Prelude.{ℕ, List, [], ◌∷◌, ◌++◌, map, filter, if◌then◌else◌}
use Rattle.sym_mod.specs.declared.module.SymModule.{SymModule}
use Rattle.sym_mod.specs.declared.module.Item.{Item}
use Rattle.sym_mod.specs.declared.module.Frag.{Frag}
use Rattle.sym_mod.specs.declared.module.SymConst.{SymConst}
use Rattle.pds_directory.specs.declared.entry.Entry.{Entry}
use Rattle.load_recs.specs.declared.items.SymbolItem.{SymbolItem}
use Rattle.load_recs.specs.declared.items.RldItem.{RldItem}
use Rattle.linking_model.specs.Names.{firsts}
use Rattle.member_model.specs.Symbols.{same_field}
use Rattle.member_model.specs.Facts.{Facts, Text, Field, no_facts}
use Rattle.member_model.specs.ReadBack.{is_gone, is_kept_at, item_as, items_of, fragment_of, fragments_of, constant_of, constants_of, entry_of}
use Rattle.member_walk.specs.Walked.{Walked}
use Rattle.member_walk.specs.declared.parts.TextPlace.{TextPlace}
use Rattle.mod_read.specs.declared.fragments.LoadedText.{LoadedText}

-- a text, as facts have it
abbrev pub text_of : LoadedText → Text
text_of x = record { segment = x.segment; section = x.section; address = x.address; bytes = x.bytes }

-- the text of a record that lies there
abbrev pub text_at : TextPlace → List ℕ → Text
text_at place bytes = record { segment = place.segment; section = place.section; address = place.address; bytes = bytes }

-- the facts that hold these symbols, texts and relocation items
abbrev pub holding : List SymbolItem → List Text → List Field → Facts
holding symbols texts fields = record no_facts { symbols = symbols; texts = texts; fields = fields }

-- what a walk has kept, with the texts of its records
abbrev pub walked_with : Walked → List LoadedText → Facts
walked_with w texts = holding w.facts.symbols (map text_of texts) w.facts.fields

-- the items with that of a symbol item, if it is kept
unfoldable pub with_symbol : List SymbolItem → List Item → SymbolItem → List Item
with_symbol symbols made x = if is_gone symbols x then made else made ++ item_as symbols x x.kind ∷ []

-- the text of a module with this, if its section is kept
unfoldable pub with_text : List SymbolItem → List Frag → LoadedText → List Frag
with_text symbols made x =
    if is_kept_at symbols x.section then made ++ fragment_of (holding symbols [] []) (text_of x) ∷ [] else made

-- the items whose sections are kept
abbrev pub kept_among : List SymbolItem → List RldItem → List RldItem
kept_among symbols items = filter (λ x. is_kept_at symbols x.p) items

-- the constants of these items, which stand in sections that are kept
abbrev pub constants_in : List SymbolItem → List RldItem → List SymConst
constants_in symbols items = map (constant_of (holding symbols [] []) items) (firsts same_field items)

-- the module of what a member holds
abbrev pub module_with : Entry → Facts → SymModule
module_with e F = record {
  items = items_of F.symbols;
  fragments = fragments_of F;
  constants = constants_of F;
  entry = entry_of F e;
}
