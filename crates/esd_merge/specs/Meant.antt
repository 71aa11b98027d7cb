-- What the names and the items of a module mean in a program, and what the module brings to it.
use Rattle.std.specs.Prelude.{ℕ, Bool, if◌then◌else◌, List, map, slice_get, position, Option, Some, None, unwrap_or, option_map, option_and_then}
use Rattle.le_bytes.specs.declared.name.Name.{Name}
use Rattle.sym_mod.specs.declared.module.Item.{Item}
use Rattle.sym_mod.specs.declared.module.ItemKind.{ItemKind}
use Rattle.sym_mod.specs.declared.module.ItemKind.TheVariants.{Pc}
use Rattle.sym_mod.specs.declared.module.Frag.{Frag}
use Rattle.sym_mod.specs.declared.module.SymConst.{SymConst}
use Rattle.sym_mod.specs.declared.module.SymTerm.{SymTerm}
use Rattle.sym_mod.specs.declared.module.SymTarget.{SymTarget}
use Rattle.sym_mod.specs.declared.module.SymTarget.TheVariants.{Own, Named, Register as InRegister, Total as OfAll}
use Rattle.sym_mod.specs.declared.module.SymEntry.{SymEntry}
use Rattle.sym_mod.specs.declared.module.SymEntry.TheVariants.{None as NoEntry, At, Named as AtName}
use Rattle.sym_mod.specs.declared.program.Text.{Text}
use Rattle.sym_mod.specs.declared.program.Term.{Term}
use Rattle.sym_mod.specs.declared.program.Constant.{Constant}
use Rattle.sym_mod.specs.declared.program.StartAt.{StartAt}
use Rattle.sym_mod.specs.declared.program.StartAt.TheVariants.{At as StartsAt, Named as StartsAtName}
use Rattle.sym_mod.specs.declared.program.Target.{Target}
use Rattle.sym_mod.specs.declared.program.Target.TheVariants.{Section as InSection, Label as AtLabel, Unresolved, Register as OfRegister, Total}
use Rattle.sym_mod.specs.Kinds.{kind_of}
use Rattle.linking_model.specs.Kept.{ByName, Private, symbol_eq, section_symbol}
use Rattle.esd_index.specs.Contents.{Contents}
use Rattle.esd_index.specs.Steps.{flag_at}
use Rattle.esd_lists.specs.Looked.{number_by}

-- the number of the section in which item i is kept, of a module with these items and marks
unfoldable pub home_at : Contents → ℕ → ℕ → List Item → List Bool → ℕ → Option ℕ
home_at c k s items kept i =
    if flag_at kept i
    then option_and_then (number_by c) (option_and_then section_symbol (option_map (λ x. record { of_module = k; number = i; segment = s; item = x }) (slice_get items i)))
    else None

-- what a name means, with the numbers of labels and of unresolved names
unfoldable pub name_means : Contents → (Name → Option ℕ) → (Name → Option ℕ) → Name → Target
name_means c labels unknowns y = by_section (number_by c (ByName y)) (labels y)
  where
    by_section : Option ℕ → Option ℕ → Target
    by_section (Some i) _ = InSection i
    by_section None (Some i) = AtLabel i
    by_section None None = Unresolved (unwrap_or (unknowns y) 0)

-- what a target that names an item means
abbrev pub item_means : Contents → (Name → Option ℕ) → (Name → Option ℕ) → ℕ → ℕ → Option Item → Target
item_means c labels unknowns k n None = Total
item_means c labels unknowns k n (Some x) = of_kind (kind_of x)
  where
    of_kind : ItemKind → Target
    of_kind Pc = InSection (unwrap_or (number_by c (Private k n)) 0)
    of_kind _ = name_means c labels unknowns x.name

-- what a target of module k means
unfoldable pub means : Contents → (Name → Option ℕ) → (Name → Option ℕ) → ℕ → List Item → SymTarget → Target
means c labels unknowns k items (Own n) = item_means c labels unknowns k n (slice_get items n)
means c labels unknowns k items (Named y) = name_means c labels unknowns y
means c labels unknowns k items (InRegister y) = OfRegister (unwrap_or (position (symbol_eq (ByName y)) c.registers) 0)
means c labels unknowns k items OfAll = Total

-- a term of a constant of module k
abbrev pub term_by : Contents → (Name → Option ℕ) → (Name → Option ℕ) → ℕ → List Item → SymTerm → Term
term_by c labels unknowns k items t = record { minus = t.minus; target = means c labels unknowns k items t.target; base = t.base }

-- a constant of module k, where its section is kept
unfoldable pub constant_by : Contents → (Name → Option ℕ) → (Name → Option ℕ) → ℕ → ℕ → List Item → List Bool → SymConst → Option Constant
constant_by c labels unknowns k s items kept x =
    option_map
    (λ i. record { section = i; offset = x.offset; length = x.length; kind = x.kind; terms = map (term_by c labels unknowns k items) x.terms })
    (home_at c k s items kept x.item)

-- the entry of module k: a name, or a place whose section is kept
unfoldable pub start_by : Contents → ℕ → ℕ → List Item → List Bool → SymEntry → Option StartAt
start_by c k s items kept NoEntry = None
start_by c k s items kept (At n offset) = option_map (λ i. StartsAt i offset) (home_at c k s items kept n)
start_by c k s items kept (AtName y) = Some (StartsAtName y)

-- text of module k, where its section is kept
unfoldable pub text_by : Contents → ℕ → ℕ → List Item → List Bool → Frag → Option Text
text_by c k s items kept f = option_map (λ i. record { section = i; offset = f.offset; bytes = f.bytes }) (home_at c k s items kept f.item)
