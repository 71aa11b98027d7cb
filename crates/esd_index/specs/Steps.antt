-- What each item and each constant of a module adds to an index.
use Rattle.std.specs.Prelude.{ℕ, Bool, true, false, not, ◌&&◌, ◌||◌, if◌then◌else◌, List, [], ◌∷◌, fold, slice_get, Option, Some, None, unwrap_or, option_map, option_and_then, Result, Ok, Err}
use Rattle.std.specs.List.{list_any}
use Rattle.le_bytes.specs.declared.name.Name.{Name}
use Rattle.sym_mod.specs.declared.module.Item.{Item}
use Rattle.sym_mod.specs.declared.module.ItemKind.{ItemKind}
use Rattle.sym_mod.specs.declared.module.ItemKind.TheVariants.{Sd, Pc, Cm}
use Rattle.sym_mod.specs.declared.module.SymConst.{SymConst}
use Rattle.sym_mod.specs.declared.module.SymTerm.{SymTerm}
use Rattle.sym_mod.specs.declared.module.SymTarget.{SymTarget}
use Rattle.sym_mod.specs.declared.module.SymTarget.TheVariants.{Own}
use Rattle.sym_mod.specs.Kinds.{kind_of, is_sd, is_cm, is_label, is_er, is_wx, is_register}
use Rattle.linking_model.specs.Kept.{Symbol, ByName, symbol_eq, Sight, symbol_of, section_symbol, name_in}
use Rattle.esd_index.specs.Marked.{with_some}
use Rattle.esd_index.specs.Contents.{Contents}

-- the name of an item whose kind passes the test
abbrev pub named_if : (ItemKind → Bool) → Item → Option Symbol
named_if test x = if test (kind_of x) then Some (ByName x.name) else None

-- the mark of item n, false where there is none
abbrev pub flag_at : List Bool → ℕ → Bool
flag_at flags n = unwrap_or (slice_get flags n) false

-- an item is a named section that is kept, by the marks
abbrev pub is_kept_section_by : List Bool → Sight → Bool
is_kept_section_by kept x = (is_sd (kind_of x.item) || is_cm (kind_of x.item)) && flag_at kept x.number

-- an item is a label whose section is kept, by the marks
abbrev pub is_kept_label_by : List Bool → Sight → Bool
is_kept_label_by kept x = is_label (kind_of x.item) && flag_at kept x.item.owner

-- the name of a label whose section is kept
abbrev pub kept_label_by : List Bool → Sight → Option Symbol
kept_label_by kept x = if is_kept_label_by kept x then Some (ByName x.item.name) else None

-- ---- which sections are kept

-- a section of this kind is kept, where SD items of these names came before
abbrev pub is_kept_over : List Symbol → Item → ItemKind → Bool
is_kept_over controls x Sd = not (list_any (symbol_eq (ByName x.name)) controls)
is_kept_over controls x Pc = true
is_kept_over controls x Cm = true
is_kept_over controls x _ = false

-- for each item whether it is a section that is kept
abbrev pub kept_flags : List Symbol → List Item → List Bool
kept_flags controls [] = []
kept_flags controls (x ∷ xs) =
    is_kept_over controls x (kind_of x) ∷ kept_flags (with_some controls (named_if is_sd x)) xs

-- the contents with the name of an SD item
abbrev pub with_control : Contents → Item → Contents
with_control c x = record c { controls = with_some c.controls (named_if is_sd x) }

-- the contents with the symbol of an item, and the name of an SD item
abbrev pub with_seen : Contents → Sight → Contents
with_seen c x = record c { symbols = with_some c.symbols (symbol_of x); controls = with_some c.controls (named_if is_sd x.item) }

-- ---- items

-- an item, with the marks of its module's items
unfoldable pub with_sight : List Bool → Contents → Sight → Contents
with_sight kept c x = record c {
  symbols = with_some c.symbols (symbol_of x);
  sections = with_some c.sections (section_symbol x);
  registers = with_some c.registers (named_if is_register x.item);
  labels = with_some c.labels (kept_label_by kept x);
  strong = with_some c.strong (named_if is_er x.item);
  weak = with_some c.weak (named_if is_wx x.item);
}

-- the item would give its name a second meaning
abbrev pub clashes_over : List Bool → Contents → Sight → Bool
clashes_over kept c x =
    is_kept_section_by kept x && list_any (symbol_eq (ByName x.item.name)) c.labels
    || is_kept_label_by kept x
    && (list_any (symbol_eq (ByName x.item.name)) c.labels || list_any (symbol_eq (ByName x.item.name)) c.sections)

-- the items, or the name of the first that would give its name a second meaning
unfoldable pub with_sights : List Bool → Contents → List Sight → Result Contents Name
with_sights kept c [] = Ok c
with_sights kept c (x ∷ xs) =
    if clashes_over kept c x then Err x.item.name else with_sights kept (with_sight kept c x) xs

-- ---- constants

-- the label item to which a target refers
abbrev pub label_meant : List Item → SymTarget → Option Symbol
label_meant items (Own n) = option_and_then (λ (x : Item). if is_label x.kind then Some (ByName x.name) else None) (slice_get items n)
label_meant items _ = None

-- the contents with what a target of a constant refers to
unfoldable pub with_target : List Item → Contents → SymTerm → Contents
with_target items c t = record c {
  symbols = with_some c.symbols (option_map ByName (name_in t.target));
  named = with_some c.named (option_map ByName (name_in t.target));
  labelled = with_some c.labelled (label_meant items t.target);
}

-- the contents with what a constant refers to
unfoldable pub with_constant : List Item → Contents → SymConst → Contents
with_constant items c x = fold (with_target items) c x.terms
