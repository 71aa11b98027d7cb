-- The program of a list of modules: what each name means, and what is kept of text and constants. That a name means
-- what one module defines for all of them, that a weak reference asks for nothing, and that registers have names of
-- their own, follows GC28-6538; which names clash, the numbers and the counts are this project's profile.
use Rattle.std.specs.Prelude.{ℕ, ◌+◌, ◌-◌, max, Bool, false, not, ◌&&◌, ◌||◌, if◌then◌else◌, List, [], ◌∷◌, ◌++◌, length, map, filter, filter_map, flat_map, fold, slice_get, position, Option, Some, None, unwrap_or, is_some, option_map}
use Rattle.std.specs.List.{list_any, enumerate_from}
use Rattle.std.specs.Option.{option_map_or}
use Rattle.le_bytes.specs.declared.name.Name.{Name}
use Rattle.le_bytes.specs.Names.{name_eq, blank_bytes}
use Rattle.sym_mod.specs.declared.module.Item.{Item}
use Rattle.sym_mod.specs.declared.module.ItemKind.{ItemKind}
use Rattle.sym_mod.specs.declared.module.ItemKind.TheVariants.{Pc}
use Rattle.sym_mod.specs.declared.module.Frag.{Frag}
use Rattle.sym_mod.specs.declared.module.SymConst.{SymConst}
use Rattle.sym_mod.specs.declared.module.SymTarget.{SymTarget}
use Rattle.sym_mod.specs.declared.module.SymTarget.TheVariants.{Own, Named, Register as InRegister, Total as OfAll}
use Rattle.sym_mod.specs.declared.module.SymEntry.{SymEntry}
use Rattle.sym_mod.specs.declared.module.SymEntry.TheVariants.{None as NoEntry, At, Named as AtName}
use Rattle.sym_mod.specs.declared.module.SymModule.{SymModule}
use Rattle.sym_mod.specs.declared.program.Program.{Program}
use Rattle.sym_mod.specs.declared.program.Section.{Section}
use Rattle.sym_mod.specs.declared.program.SecKind.TheVariants.{Sd as SdSection, Pc as PcSection, Cm as CmSection}
use Rattle.sym_mod.specs.declared.program.Label.{Label}
use Rattle.sym_mod.specs.declared.program.Unknown.{Unknown}
use Rattle.sym_mod.specs.declared.program.Register.{Register}
use Rattle.sym_mod.specs.declared.program.Text.{Text}
use Rattle.sym_mod.specs.declared.program.Constant.{Constant}
use Rattle.sym_mod.specs.declared.program.StartAt.{StartAt}
use Rattle.sym_mod.specs.declared.program.StartAt.TheVariants.{At as StartsAt, Named as StartsAtName}
use Rattle.sym_mod.specs.declared.program.Target.{Target}
use Rattle.sym_mod.specs.declared.program.Target.TheVariants.{Section as InSection, Label as AtLabel, Unresolved, Register as OfRegister, Total}
use Rattle.sym_mod.specs.Kinds.{kind_of, is_sd, is_cm, is_label, is_er, is_wx, is_register}
use Rattle.linking_model.specs.Names.{firsts}
use Rattle.linking_model.specs.Kept.{Read, Sight, sights, Symbol, ByName, Private, kept_sd, areas, sight_at, kept_as, section_number, section_symbols, kept_in, kept_constants, appearance, rank_of}

-- ---- sections and labels

-- the greatest length of these items, 0 where there is none
abbrev pub greatest_length : List Sight → ℕ
greatest_length xs = fold (λ n x. max n x.item.length) 0 xs

-- an area, or the SD that is kept, with the greatest length of the areas of its name
abbrev pub named_section : List Read → Name → Option Sight → Section
named_section rs y None = record {
  name = y;
  kind = CmSection;
  rank = rank_of rs (ByName y);
  segment = 0;
  users = map (λ x. x.segment) (areas rs y);
  length = greatest_length (areas rs y);
}
named_section rs y (Some first) = record {
  name = y;
  kind = SdSection;
  rank = rank_of rs (ByName y);
  segment = first.segment;
  users = map (λ x. x.segment) (areas rs y);
  length = greatest_length (first ∷ areas rs y);
}

-- a private section, of one item
abbrev pub private_section : List Read → Symbol → Sight → Section
private_section rs y x = record {
  name = record { 0 = blank_bytes };
  kind = PcSection;
  rank = rank_of rs y;
  segment = x.segment;
  users = [];
  length = x.item.length;
}

-- the section of a symbol, none where there is no such item
abbrev pub section_of : List Read → Symbol → Option Section
section_of rs (ByName y) = Some (named_section rs y (kept_sd rs y))
section_of rs (Private m n) = option_map (private_section rs (Private m n)) (sight_at rs m n)

-- the sections of the program, numbered from 0 in the order of their first items
abbrev pub sections : List Read → List Section
sections rs = filter_map (section_of rs) (section_symbols rs)

-- the label at this item, where its section is kept
abbrev pub label_at : List Read → Sight → Option Label
label_at rs x =
    let owner = option_map_or (λ o. o.item.base) (sight_at rs x.of_module x.item.owner) 0 in
    option_map
    (λ i. record { name = x.item.name; rank = rank_of rs (ByName x.item.name); section = i; offset = x.item.base - owner })
    (kept_in rs x.of_module x.item.owner)

-- a label item of the name
abbrev pub is_label_named : Name → Sight → Bool
is_label_named y x = is_label (kind_of x.item) && name_eq x.item.name y

-- the labels of a name whose sections are kept
abbrev pub kept_labels : List Read → Name → List Label
kept_labels rs y = filter_map (label_at rs) (filter (is_label_named y) (sights rs))

-- the label of a symbol: the first that is kept
abbrev pub label_of : List Read → Symbol → Option Label
label_of rs (ByName y) = slice_get (kept_labels rs y) 0
label_of rs (Private _ _) = None

-- the labels of the program, numbered from 0 in the order of first appearance
abbrev pub labels : List Read → List Label
labels rs = filter_map (label_of rs) (appearance rs)

-- the section or label that has the name
unfoldable pub definition : List Read → Name → Option Target
definition rs y = or_label (section_number rs (ByName y)) (position (λ x. name_eq x.name y) (labels rs))
  where
    or_label : Option ℕ → Option ℕ → Option Target
    or_label (Some i) _ = Some (InSection i)
    or_label None (Some i) = Some (AtLabel i)
    or_label None None = None

-- ---- names with two meanings

-- an SD item that is kept, or a CM item
abbrev pub is_kept_section : List Read → Sight → Bool
is_kept_section rs x =
    (is_sd (kind_of x.item) || is_cm (kind_of x.item)) && is_some (kept_as rs x (kind_of x.item))

-- a label item whose section is kept
abbrev pub is_kept_label : List Read → Sight → Bool
is_kept_label rs x = is_label (kind_of x.item) && is_some (kept_in rs x.of_module x.item.owner)

-- two items have one name
abbrev pub has_name_of : Sight → Sight → Bool
has_name_of x y = name_eq x.item.name y.item.name

-- a kept section with the name of an earlier kept label, or a kept label with that of an earlier kept section or label
abbrev pub clashes : List Read → List Sight → Sight → Bool
clashes rs before x =
    is_kept_section rs x && list_any (λ y. is_kept_label rs y && has_name_of x y) before
    || is_kept_label rs x && list_any (λ y. (is_kept_section rs y || is_kept_label rs y) && has_name_of x y) before

-- the name of the first of the items that clashes with one before it, where these came before them all
abbrev pub first_clash : List Read → List Sight → List Sight → Option Name
first_clash rs before [] = None
first_clash rs before (x ∷ xs) =
    if clashes rs before x then Some x.item.name else first_clash rs (before ++ x ∷ []) xs

-- the name of the first item that gives a name a second meaning
unfoldable pub double_definition : List Read → Option Name
double_definition rs = first_clash rs [] (sights rs)

-- ---- unresolved and weak names

-- an item has the name and a kind that passes the test
abbrev pub has_item : List Read → (ItemKind → Bool) → Name → Bool
has_item rs test y = list_any (λ x. test (kind_of x.item) && name_eq x.item.name y) (sights rs)

-- some kept constant has a target that passes the test
abbrev pub is_referred : List Read → (SymModule → SymTarget → Bool) → Bool
is_referred rs test =
    list_any (λ (m, r). list_any (λ c. list_any (λ t. test r.module_ t.target) c.terms) (kept_constants rs m r.module_))
    (enumerate_from 0 rs)

-- a target that refers by the name
abbrev pub is_name_target : Name → SymTarget → Bool
is_name_target y (Named x) = name_eq x y
is_name_target y _ = false

-- a target that is a label item of the name
abbrev pub is_label_target : Name → SymModule → SymTarget → Bool
is_label_target y m (Own n) = option_map_or (λ x. is_label x.kind && name_eq x.name y) (slice_get m.items n) false
is_label_target y m _ = false

-- an ER or WX item has the name, or a kept constant refers to it: by the name, or by a label item of it
abbrev pub is_referenced : List Read → Name → Bool
is_referenced rs y =
    has_item rs (λ k. is_er k || is_wx k) y || is_referred rs (λ m t. is_name_target y t || is_label_target y m t)

-- a WX item has the name, and neither an ER item nor a label item to which a kept constant refers
abbrev pub is_weak : List Read → Name → Bool
is_weak rs y = has_item rs is_wx y && not (has_item rs is_er y) && not (is_referred rs (is_label_target y))

-- the unresolved name of a symbol: one that is referenced and not defined
abbrev pub unknown_of : List Read → Symbol → Option Unknown
unknown_of rs (ByName y) =
    if is_referenced rs y && not (is_some (definition rs y)) then Some (record { name = y; weak = is_weak rs y }) else None
unknown_of rs (Private _ _) = None

-- the unresolved names, numbered from 0 in the order of first appearance
unfoldable pub unresolved : List Read → List Unknown
unresolved rs = filter_map (unknown_of rs) (appearance rs)

-- ---- registers

-- the register items of all modules
abbrev pub register_items : List Read → List Sight
register_items rs = filter (λ x. is_register x.item.kind) (sights rs)

-- registers of one name are one, with the greatest length and the greatest alignment
abbrev pub register_of : List Read → Name → Register
register_of rs y =
    let items = filter (λ x. name_eq x.item.name y) (register_items rs) in
    record { name = y; length = greatest_length items; align = fold (λ n x. max n x.item.align) 1 items }

-- the registers of the program, numbered from 0 in the order of their first items
abbrev pub registers : List Read → List Register
registers rs = map (register_of rs) (firsts name_eq (map (λ x. x.item.name) (register_items rs)))

-- ---- constants, text and entries

-- what a name means by its definition, or its number among the unresolved names
abbrev pub named_target : List Read → Name → Option Target → Target
named_target rs y (Some d) = d
named_target rs y None = Unresolved (unwrap_or (position (λ x. name_eq x.name y) (unresolved rs)) 0)

-- what item n of module m means as a target: itself where it is private, else what its name means
abbrev pub own_target : List Read → ℕ → ℕ → Option Item → Target
own_target rs m n None = Total
own_target rs m n (Some x) = own_of (kind_of x)
  where
    own_of : ItemKind → Target
    own_of Pc = InSection (unwrap_or (section_number rs (Private m n)) 0)
    own_of _ = named_target rs x.name (definition rs x.name)

-- what a target of module m means in the program
abbrev pub meaning : List Read → ℕ → SymModule → SymTarget → Target
meaning rs m x (Own n) = own_target rs m n (slice_get x.items n)
meaning rs m x (Named y) = named_target rs y (definition rs y)
meaning rs m x (InRegister y) = OfRegister (unwrap_or (position (λ r. name_eq r.name y) (registers rs)) 0)
meaning rs m x OfAll = Total

-- a constant of module m, where the section in which it stands is kept
abbrev pub constant_of : List Read → ℕ → SymModule → SymConst → Option Constant
constant_of rs m x c =
    option_map (λ i. record {
      section = i;
      offset = c.offset;
      length = c.length;
      kind = c.kind;
      terms = map (λ t. record { minus = t.minus; target = meaning rs m x t.target; base = t.base }) c.terms;
    }) (kept_in rs m c.item)

-- the constants of the program, module by module
abbrev pub constants : List Read → List Constant
constants rs = flat_map (λ (m, r). filter_map (constant_of rs m r.module_) r.module_.constants) (enumerate_from 0 rs)

-- text of module m, where its section is kept
abbrev pub text_of : List Read → ℕ → Frag → Option Text
text_of rs m f = option_map (λ i. record { section = i; offset = f.offset; bytes = f.bytes }) (kept_in rs m f.item)

-- the text of the program, in reading order
abbrev pub texts : List Read → List Text
texts rs = flat_map (λ (m, r). filter_map (text_of rs m) r.module_.fragments) (enumerate_from 0 rs)

-- the entry that a module gives: a name, or a place whose section is kept
abbrev pub start_of : List Read → ℕ × Read → Option StartAt
start_of rs (m, r) = start_for r.module_.entry
  where
    start_for : SymEntry → Option StartAt
    start_for NoEntry = None
    start_for (At n offset) = option_map (λ i. StartsAt i offset) (kept_in rs m n)
    start_for (AtName y) = Some (StartsAtName y)

-- the entries that modules give, in reading order
abbrev pub starts : List Read → List StartAt
starts rs = filter_map (start_of rs) (enumerate_from 0 rs)

-- the program of a list of modules; an area that no SD makes a section has no segment yet
unfoldable pub program_of : List Read → Program
program_of rs = record {
  sections = sections rs;
  labels = labels rs;
  unresolved = unresolved rs;
  registers = registers rs;
  texts = texts rs;
  constants = constants rs;
  starts = starts rs;
}

-- how many names, private sections and registers have appeared, kept or not
unfoldable pub symbol_count : List Read → ℕ
symbol_count rs = length (appearance rs) + length (registers rs)
