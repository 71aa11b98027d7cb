-- Which sections and labels of a list of modules are kept, and in which order names appear.
-- That the first section of a name is kept and the others are dropped, and that common areas of one name
-- are one area, follows GC28-6538; the order of first appearance is this project's profile.
use Rattle.std.specs.Prelude.{ℕ, ◌+◌, Bool, false, ◌&&◌, ◌||◌, ◌==◌, nat_lt, if◌then◌else◌, List, [], ◌∷◌, ◌++◌, map, filter, filter_map, flat_map, find, position, Option, Some, None, unwrap_or, is_some, option_and_then}
use Rattle.std.specs.List.{enumerate_from}
use Rattle.le_bytes.specs.declared.name.Name.{Name}
use Rattle.le_bytes.specs.Names.{name_eq}
use Rattle.sym_mod.specs.declared.module.Item.{Item}
use Rattle.sym_mod.specs.declared.module.ItemKind.{ItemKind}
use Rattle.sym_mod.specs.declared.module.ItemKind.TheVariants.{Sd, Pc, Cm, Register}
use Rattle.sym_mod.specs.declared.module.SymConst.{SymConst}
use Rattle.sym_mod.specs.declared.module.SymTarget.{SymTarget}
use Rattle.sym_mod.specs.declared.module.SymTarget.TheVariants.{Named}
use Rattle.sym_mod.specs.declared.module.SymModule.{SymModule}
use Rattle.sym_mod.specs.Kinds.{kind_of, is_sd, is_cm}
use Rattle.linking_model.specs.Names.{firsts, in_order}

-- a module that was read, and the segment that was current
pub record Read : Type 0 where
  pub module_ : SymModule
  pub segment : ℕ

-- an item where it is seen: of which module, and which item of it, both from 0
pub record Sight : Type 0 where
  pub of_module : ℕ
  pub number : ℕ
  pub segment : ℕ
  pub item : Item

-- the items of module m from number n on
abbrev pub sights_in : ℕ → ℕ → ℕ → List Item → List Sight
sights_in m segment n [] = []
sights_in m segment n (x ∷ xs) =
    record { of_module = m; number = n; segment = segment; item = x } ∷ sights_in m segment (n + 1) xs

-- the items of the modules, of which the first is module m
abbrev pub sights_from : ℕ → List Read → List Sight
sights_from m [] = []
sights_from m (r ∷ rs) = sights_in m r.segment 0 r.module_.items ++ sights_from (m + 1) rs

-- all items of the modules, in reading order
abbrev pub sights : List Read → List Sight
sights rs = sights_from 0 rs

-- ---- symbols

-- what may be referred to: a name, or a private section, which has none, by its module and number
pub data Symbol : Type 0 where
  ByName : Name → Symbol
  Private : ℕ → ℕ → Symbol

-- two symbols are the same
abbrev pub symbol_eq : Symbol → Symbol → Bool
symbol_eq (ByName x) (ByName y) = name_eq x y
symbol_eq (Private m n) (Private k l) = m == k && n == l
symbol_eq _ _ = false

-- the symbol of an item of this kind; registers have names apart
abbrev pub symbol_for : Sight → ItemKind → Option Symbol
symbol_for x Pc = Some (Private x.of_module x.number)
symbol_for x Register = None
symbol_for x _ = Some (ByName x.item.name)

-- the symbol of an item, none for a register
abbrev pub symbol_of : Sight → Option Symbol
symbol_of x = symbol_for x (kind_of x.item)

-- the symbol of an item of this kind, where that is SD, PC or CM
abbrev pub section_symbol_for : Sight → ItemKind → Option Symbol
section_symbol_for x Sd = Some (ByName x.item.name)
section_symbol_for x Pc = Some (Private x.of_module x.number)
section_symbol_for x Cm = Some (ByName x.item.name)
section_symbol_for x _ = None

-- the symbol of an item that is a section
abbrev pub section_symbol : Sight → Option Symbol
section_symbol x = section_symbol_for x (kind_of x.item)

-- the sections, in the order of their first SD, PC or CM item
abbrev pub section_symbols : List Read → List Symbol
section_symbols rs = firsts symbol_eq (filter_map section_symbol (sights rs))

-- ---- kept

-- an SD item of the name
abbrev pub is_sd_named : Name → Sight → Bool
is_sd_named y x = is_sd (kind_of x.item) && name_eq x.item.name y

-- a CM item of the name
abbrev pub is_area_named : Name → Sight → Bool
is_area_named y x = is_cm (kind_of x.item) && name_eq x.item.name y

-- of several SD items of one name the first is kept
abbrev pub kept_sd : List Read → Name → Option Sight
kept_sd rs y = find (is_sd_named y) (sights rs)

-- the CM items of one name are one area
abbrev pub areas : List Read → Name → List Sight
areas rs y = filter (is_area_named y) (sights rs)

-- item n of module m
abbrev pub is_at : ℕ → ℕ → Sight → Bool
is_at m n x = x.of_module == m && x.number == n

-- item n of module m, if there is one
abbrev pub sight_at : List Read → ℕ → ℕ → Option Sight
sight_at rs m n = find (is_at m n) (sights rs)

-- the section that an item of this kind is kept as: a PC always, and an area with the SD of its name
abbrev pub kept_as : List Read → Sight → ItemKind → Option Symbol
kept_as rs x Sd =
    option_and_then (λ first. if is_at first.of_module first.number x then Some (ByName x.item.name) else None)
    (kept_sd rs x.item.name)
kept_as rs x Pc = Some (Private x.of_module x.number)
kept_as rs x Cm = Some (ByName x.item.name)
kept_as rs x _ = None

-- the section that item n of module m is kept as, none where it is dropped
abbrev pub kept_symbol : List Read → ℕ → ℕ → Option Symbol
kept_symbol rs m n = option_and_then (λ x. kept_as rs x (kind_of x.item)) (sight_at rs m n)

-- the place of a symbol among the sections, from 0
abbrev pub section_number : List Read → Symbol → Option ℕ
section_number rs y = position (symbol_eq y) (section_symbols rs)

-- the number of the section in which item n of module m is kept
unfoldable pub kept_in : List Read → ℕ → ℕ → Option ℕ
kept_in rs m n = option_and_then (section_number rs) (kept_symbol rs m n)

-- ---- order of first appearance

-- one constant stands before another, by item and offset
abbrev pub stands_before : SymConst → SymConst → Bool
stands_before c d = nat_lt c.item d.item || c.item == d.item && nat_lt c.offset d.offset

-- the constants of module m that stand in kept sections, by item and offset
abbrev pub kept_constants : List Read → ℕ → SymModule → List SymConst
kept_constants rs m x = in_order stands_before (filter (λ c. is_some (kept_in rs m c.item)) x.constants)

-- the name by which a target refers, if it does
abbrev pub name_in : SymTarget → Option Name
name_in (Named y) = Some y
name_in _ = None

-- the names by which kept constants of module m refer, in order
abbrev pub referred_names : List Read → ℕ → SymModule → List Name
referred_names rs m x = flat_map (λ c. filter_map (λ t. name_in t.target) c.terms) (kept_constants rs m x)

-- what appears in module m: its items, and after them names that only its constants have
abbrev pub seen_in : List Read → ℕ × Read → List Symbol
seen_in rs (m, r) =
    filter_map symbol_of (sights_in m r.segment 0 r.module_.items)
    ++ map (λ y. ByName y) (referred_names rs m r.module_)

-- the symbols, in order of first appearance
unfoldable pub appearance : List Read → List Symbol
appearance rs = firsts symbol_eq (flat_map (seen_in rs) (enumerate_from 0 rs))

-- the place of a symbol in the order of first appearance, from 0
abbrev pub rank_of : List Read → Symbol → ℕ
rank_of rs y = unwrap_or (position (symbol_eq y) (appearance rs)) 0
