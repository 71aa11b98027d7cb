-- What is kept beside the symbol items of a member, so that no item has to be looked for.
use Rattle.std.specs.Prelude.{◌≡◌, ℕ, ◌+◌, Bool, true, false, if◌then◌else◌, List, [], ◌∷◌, ◌++◌, length, Option, unwrap_or}
use Rattle.std.specs.List.{list_all}
use Rattle.std.specs.Option.{option_map_or}
use Rattle.load_recs.specs.declared.items.SymbolKind.{SymbolKind}
use Rattle.load_recs.specs.declared.items.SymbolKind.TheVariants.{Lr}
use Rattle.load_recs.specs.declared.items.SymbolItem.{SymbolItem}
use Rattle.load_recs.specs.Kinds.{is_text_kind}
use Rattle.member_model.specs.Symbols.{is_section, symbol_at, section_as, section_rank, section_addresses}
use Rattle.member_model.specs.Faults.{last_end, translations}

-- a label names an SD or PC among these items
abbrev pub names_text : List SymbolItem → SymbolItem → SymbolKind → Bool
names_text symbols x Lr = option_map_or (λ owner. is_text_kind owner.kind) (symbol_at symbols x.length) false
names_text symbols x _ = true

-- every label names an SD or PC
unfoldable pub labels_named : List SymbolItem → Bool
labels_named symbols = list_all (λ x. names_text symbols x x.kind) symbols

-- the addresses of the sections
unfoldable pub addresses_of : List SymbolItem → List ℕ
addresses_of symbols = section_addresses symbols

-- of each item the number of the scatter item of its section, 0 where it has none
unfoldable pub numbers_of : List SymbolItem → List ℕ
numbers_of symbols = translations symbols

-- the end of the last section of a segment
unfoldable pub end_in : List SymbolItem → ℕ → ℕ
end_in symbols segment = last_end symbols segment

-- the number of the scatter item of the section of an item that comes after others
unfoldable pub number_after : List SymbolItem → SymbolItem → ℕ
number_after before x = section_rank (before ++ x ∷ []) (section_as (length before + 1) x.length x.kind)

-- the address of an item, if it is a section
abbrev pub section_address : SymbolItem → List ℕ
section_address x = if is_section x then x.address ∷ [] else []

-- the lists and the ends by segment are those of the items
pub record AreKept (symbols : List SymbolItem) (addresses numbers : List ℕ) (ends : ℕ → Option ℕ) : Type 0 where
  pub addresses_are : addresses ≡ addresses_of symbols
  pub numbers_are : numbers ≡ numbers_of symbols
  pub ends_are : (segment : ℕ) → unwrap_or (ends segment) 0 ≡ end_in symbols segment
  pub named : labels_named symbols ≡ true
