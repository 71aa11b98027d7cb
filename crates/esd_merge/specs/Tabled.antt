-- What a module brings to a program, where a table says for each of its items the number of the section in which it is kept, and what a target
-- means that names it.
use Rattle.std.specs.Prelude.{ℕ, ◌+◌, Bool, List, [], ◌∷◌, map, slice_get, position, Option, Some, None, unwrap_or, option_map}
use Rattle.le_bytes.specs.declared.name.Name.{Name}
use Rattle.sym_mod.specs.declared.module.Item.{Item}
use Rattle.sym_mod.specs.declared.module.Frag.{Frag}
use Rattle.sym_mod.specs.declared.module.SymConst.{SymConst}
use Rattle.sym_mod.specs.declared.module.SymTerm.{SymTerm}
use Rattle.sym_mod.specs.declared.module.SymTarget.{SymTarget}
use Rattle.sym_mod.specs.declared.module.SymTarget.TheVariants.{Own, Named, Register as InRegister, Total as OfAll}
use Rattle.sym_mod.specs.declared.module.SymEntry.{SymEntry}
use Rattle.sym_mod.specs.declared.module.SymEntry.TheVariants.{None as NoEntry, At, Named as AtName}
use Rattle.sym_mod.specs.declared.program.Text.{Text}
use Rattle.sym_mod.specs.declared.program.Term.{Term}
use Rattle.sym_mod.specs.declared.program.Constant.{Constant}
use Rattle.sym_mod.specs.declared.program.StartAt.{StartAt}
use Rattle.sym_mod.specs.declared.program.StartAt.TheVariants.{At as StartsAt, Named as StartsAtName}
use Rattle.sym_mod.specs.declared.program.Target.{Target}
use Rattle.sym_mod.specs.declared.program.Target.TheVariants.{Register as OfRegister, Total}
use Rattle.linking_model.specs.Kept.{ByName, symbol_eq}
use Rattle.esd_index.specs.Contents.{Contents}
use Rattle.esd_merge.specs.Meant.{home_at, name_means, item_means}

-- for each item, numbered from n on, what f says of its number
abbrev pub each_from : {A : Type 0} → (ℕ → A) → ℕ → List Item → List A
each_from f n [] = []
each_from f n (x ∷ xs) = f n ∷ each_from f (n + 1) xs

-- for each item of module k the number of the section in which it is kept
abbrev pub homes_of : Contents → ℕ → ℕ → List Item → List Bool → List (Option ℕ)
homes_of c k s items kept = each_from (home_at c k s items kept) 0 items

-- what a target of module k means that names item n
abbrev pub target_at : Contents → (Name → Option ℕ) → (Name → Option ℕ) → ℕ → List Item → ℕ → Target
target_at c labels unknowns k items n = item_means c labels unknowns k n (slice_get items n)

-- for each item of module k what a target means that names it
abbrev pub targets_of : Contents → (Name → Option ℕ) → (Name → Option ℕ) → ℕ → List Item → List Target
targets_of c labels unknowns k items = each_from (target_at c labels unknowns k items) 0 items

-- the number of the section in which item i is kept
abbrev pub home_in : List (Option ℕ) → ℕ → Option ℕ
home_in homes i = unwrap_or (slice_get homes i) None

-- what a target means
unfoldable pub means_in : Contents → (Name → Option ℕ) → (Name → Option ℕ) → List Target → SymTarget → Target
means_in c labels unknowns targets (Own n) = unwrap_or (slice_get targets n) Total
means_in c labels unknowns targets (Named y) = name_means c labels unknowns y
means_in c labels unknowns targets (InRegister y) = OfRegister (unwrap_or (position (symbol_eq (ByName y)) c.registers) 0)
means_in c labels unknowns targets OfAll = Total

-- a term of a constant
abbrev pub term_in : Contents → (Name → Option ℕ) → (Name → Option ℕ) → List Target → SymTerm → Term
term_in c labels unknowns targets t = record { minus = t.minus; target = means_in c labels unknowns targets t.target; base = t.base }

-- a constant, where its section is kept
unfoldable pub constant_in : Contents → (Name → Option ℕ) → (Name → Option ℕ) → List (Option ℕ) → List Target → SymConst → Option Constant
constant_in c labels unknowns homes targets x =
    option_map
    (λ i. record { section = i; offset = x.offset; length = x.length; kind = x.kind; terms = map (term_in c labels unknowns targets) x.terms })
    (home_in homes x.item)

-- the entry of a module: a name, or a place whose section is kept
unfoldable pub start_in : List (Option ℕ) → SymEntry → Option StartAt
start_in homes NoEntry = None
start_in homes (At n offset) = option_map (λ i. StartsAt i offset) (home_in homes n)
start_in homes (AtName y) = Some (StartsAtName y)

-- text, where its section is kept
unfoldable pub text_in : List (Option ℕ) → Frag → Option Text
text_in homes f = option_map (λ i. record { section = i; offset = f.offset; bytes = f.bytes }) (home_in homes f.item)
