-- The symbolic module that the facts of a deck make, with the length and the entry point of its END card.
use Rattle.std.specs.Prelude.{ℕ, ◌+◌, ◌-◌, Bool, true, false, ◌&&◌, ◌==◌, if◌then◌else◌, List, [], ◌∷◌, ◌++◌, map, take, filter, Option, Some, None, unwrap_or}
use Rattle.std.specs.List.{list_any}
use Rattle.std.specs.Option.{option_map_or}
use Rattle.le_bytes.specs.Names.{is_blank}
use Rattle.obj_cards.specs.declared.card.EsdKind.{EsdKind}
use Rattle.obj_cards.specs.declared.card.EsdKind.TheVariants.{Sd, Ld, Er, Pc, Cm, Pr, Wx}
use Rattle.obj_cards.specs.declared.card.EsdItem.{EsdItem}
use Rattle.obj_cards.specs.declared.card.TxtCard.{TxtCard}
use Rattle.obj_cards.specs.declared.card.CardRld.{CardRld}
use Rattle.obj_cards.specs.declared.card.EndStart.{EndStart}
use Rattle.obj_cards.specs.declared.card.EndStart.TheVariants.{None as NoStart, At as StartAt, Named as StartNamed}
use Rattle.obj_cards.specs.declared.card.EndCard.{EndCard}
use Rattle.sym_mod.specs.declared.module.ItemKind.{ItemKind}
use Rattle.sym_mod.specs.declared.module.ItemKind.TheVariants.{Sd as Section, Pc as Private, Cm as Common, Label, Er as Reference, Wx as Weak, Register}
use Rattle.sym_mod.specs.declared.module.Item.{Item}
use Rattle.sym_mod.specs.declared.module.Frag.{Frag}
use Rattle.sym_mod.specs.declared.module.Kind.{Kind}
use Rattle.sym_mod.specs.declared.module.Kind.TheVariants.{Address, Branch, Displacement, Total as AllRegisters}
use Rattle.sym_mod.specs.declared.module.SymTarget.{SymTarget}
use Rattle.sym_mod.specs.declared.module.SymTarget.TheVariants.{Own, Register as InRegister, Total}
use Rattle.sym_mod.specs.declared.module.SymTerm.{SymTerm}
use Rattle.sym_mod.specs.declared.module.SymConst.{SymConst}
use Rattle.sym_mod.specs.declared.module.SymEntry.{SymEntry}
use Rattle.sym_mod.specs.declared.module.SymEntry.TheVariants.{None as NoEntry, At, Named as AtName}
use Rattle.sym_mod.specs.declared.module.SymModule.{SymModule}
use Rattle.obj_read.specs.declared.numbered.Numbered.{Numbered}
use Rattle.obj_read.specs.Facts.{has_text, number_of, with_esdid}
use Rattle.obj_read.specs.Flags.{kind_of_flag, length_of_flag, is_minus}

-- ---- the length that END gives

-- a control section that the dictionary gives without a length
abbrev pub lacks_length : Numbered → Bool
lacks_length x = has_text x.item.kind && x.item.length == 0

-- it is that of the first control section that the dictionary gives without one
abbrev pub with_length : ℕ → List Numbered → List Numbered
with_length n [] = []
with_length n (x ∷ items) =
    if lacks_length x
    then record { esdid = x.esdid; item = record x.item { length = n } } ∷ items
    else x ∷ with_length n items

abbrev pub with_end : Option ℕ → List Numbered → List Numbered
with_end None items = items
with_end (Some n) items = with_length n items

-- ---- items

-- a section without a name is private code
abbrev pub symbol_kind : EsdKind → Bool → ItemKind
symbol_kind Sd true = Private
symbol_kind Sd false = Section
symbol_kind Ld _ = Label
symbol_kind Er _ = Reference
symbol_kind Pc _ = Private
symbol_kind Cm _ = Common
symbol_kind Pr _ = Register
symbol_kind Wx _ = Weak

abbrev pub length_for : EsdItem → EsdKind → ℕ
length_for x Ld = 0
length_for x _ = x.length

-- of a label: the number of its section
abbrev pub owner_for : List Numbered → EsdItem → EsdKind → ℕ
owner_for items x Ld = unwrap_or (number_of x.length items) 0
owner_for items x _ = 0

abbrev pub align_for : EsdItem → EsdKind → ℕ
align_for x Pr = x.align + 1
align_for x _ = 0

abbrev pub symbol : List Numbered → Numbered → Item
symbol items x = record {
  name = x.item.name;
  kind = symbol_kind x.item.kind (is_blank x.item.name);
  base = x.item.address;
  length = length_for x.item x.item.kind;
  owner = owner_for items x.item x.item.kind;
  align = align_for x.item x.item.kind;
}

-- ---- text

-- the assembled address of the item with the ESDID
abbrev pub base_of : List Numbered → ℕ → ℕ
base_of items id = option_map_or (λ x. x.item.address) (with_esdid id items) 0

-- its number
abbrev pub number_or : List Numbered → ℕ → ℕ
number_or items id = unwrap_or (number_of id items) 0

abbrev pub fragment : List Numbered → TxtCard → Frag
fragment items t = record {
  item = number_or items t.esdid;
  offset = t.address - base_of items t.esdid;
  bytes = take t.count t.bytes;
}

-- ---- constants

abbrev pub same_place : CardRld → CardRld → Bool
same_place f g = f.p == g.p && f.address == g.address

-- the terms that stand first at their places, where some were seen before: one for each constant
abbrev pub leaders : List CardRld → List CardRld → List CardRld
leaders seen [] = []
leaders seen (f ∷ terms) =
    if list_any (same_place f) seen then leaders seen terms else f ∷ leaders (seen ++ f ∷ []) terms

abbrev pub target_of : List Numbered → CardRld → Kind → SymTarget
target_of items f Address = Own (number_or items f.r)
target_of items f Branch = Own (number_or items f.r)
target_of items f Displacement = option_map_or (λ x. InRegister x.item.name) (with_esdid f.r items) Total
target_of items f AllRegisters = Total

-- the target's assembled address, which the stored number of a constant holds already
abbrev pub base_for : List Numbered → CardRld → Kind → ℕ
base_for items f Address = base_of items f.r
base_for items f Branch = base_of items f.r
base_for items f _ = 0

abbrev pub term : List Numbered → CardRld → SymTerm
term items f = record {
  minus = is_minus f.flag;
  target = target_of items f (kind_of_flag f.flag);
  base = base_for items f (kind_of_flag f.flag);
}

-- the constant at the place of a term, with all terms of that place in order
abbrev pub constant : List Numbered → List CardRld → CardRld → SymConst
constant items terms f = record {
  item = number_or items f.p;
  offset = f.address - base_of items f.p;
  length = length_of_flag f.flag;
  kind = kind_of_flag f.flag;
  terms = map (term items) (filter (same_place f) terms);
}

abbrev pub constants : List Numbered → List CardRld → List SymConst
constants items terms = map (constant items terms) (leaders [] terms)

-- ---- the module

abbrev pub entry : List Numbered → EndStart → SymEntry
entry items NoStart = NoEntry
entry items (StartAt address id) = At (number_or items id) (address - base_of items id)
entry items (StartNamed name) = AtName name

-- the module of items, text and terms, and of the END card
abbrev pub module_of : List Numbered → List TxtCard → List CardRld → EndCard → SymModule
module_of items texts terms end =
    let all = with_end end.length items in
    record {
      items = map (symbol all) all;
      fragments = map (fragment all) texts;
      constants = constants all terms;
      entry = entry all end.start;
    }
