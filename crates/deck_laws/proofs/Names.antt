-- The names of a merged program have eight bytes, as those of its modules have.
use Rattle.std.proofs.Common.{◌≡◌, ℕ, ◌+◌, Bool, true, false, cond, List, [], ◌∷◌, ◌++◌, map, fold, Option, Some, None, is_some, option_map, refl, subst, filter, filter_map, flat_map}
use Rattle.std.specs.Prelude.{⊤}
use Rattle.std.specs.List.{list_any, AllByRecursion, enumerate_from}
use Rattle.std.proofs.lemmas.List.Elements.{recursion_from_All}
use Rattle.le_bytes.specs.declared.name.Name.{Name}
use Rattle.le_bytes.specs.Names.{name_eq}
use Rattle.sym_mod.specs.declared.module.Item.{Item}
use Rattle.sym_mod.specs.declared.module.ItemKind.{ItemKind}
use Rattle.sym_mod.specs.declared.module.ItemKind.TheVariants.{Sd, Pc, Cm, Label as LabelItem, Er, Wx, Register as RegisterItem}
use Rattle.sym_mod.specs.declared.module.SymConst.{SymConst}
use Rattle.sym_mod.specs.declared.module.SymTerm.{SymTerm}
use Rattle.sym_mod.specs.declared.module.SymTarget.{SymTarget}
use Rattle.sym_mod.specs.declared.module.SymTarget.TheVariants.{Own, Named, Register as InRegister, Total as OfAll}
use Rattle.sym_mod.specs.declared.module.SymModule.{SymModule}
use Rattle.sym_mod.specs.declared.program.Section.{Section}
use Rattle.sym_mod.specs.declared.program.Unknown.{Unknown}
use Rattle.sym_mod.specs.Kinds.{kind_of, is_register}
use Rattle.linking_model.specs.Names.{with_first, firsts}
use Rattle.linking_model.specs.Kept.{Read, Sight, Symbol, ByName, Private, sights, sights_in, sights_from, sight_at, kept_sd, symbol_for, symbol_of, section_symbol_for, section_symbol, section_symbols, kept_in, kept_constants, name_in, referred_names, seen_in, appearance}
use Rattle.linking_model.specs.Merged.{named_section, private_section, section_of, sections, unknown_of, unresolved, is_weak, register_items, register_of, registers}
use Rattle.member_laws.specs.Linkable.{HasEightBytes}
use Rattle.deck_laws.specs.Whole.{RefersWhole, HasWholeTerms, IsWhole, IsWholeRead}
use Rattle.esd_lists.proofs.Each.{all_made, all_less, all_passing, all_join, all_fold, all_in_order}

some_same : {A : Type 0} {x y : A} → Some x ≡ Some y → x ≡ y
some_same e = cc

-- ---- the items that are seen

abbrev pub IsNamedWhole : Sight → Type 0
IsNamedWhole x = HasEightBytes x.item.name

in_module : (m s k : ℕ) (items : List Item) → AllByRecursion (λ x. HasEightBytes x.name) items → AllByRecursion IsNamedWhole (sights_in m s k items)
in_module m s k [] all = tt
in_module m s k (x ∷ items) all = (all.0, in_module m s (k + 1) items all.1)

names_in : (m : SymModule) → IsWhole m → AllByRecursion (λ x. HasEightBytes x.name) m.items
names_in m whole = recursion_from_All (λ x. HasEightBytes x.name) m.items whole.names

in_modules : (k : ℕ) (rs : List Read) → AllByRecursion IsWholeRead rs → AllByRecursion IsNamedWhole (sights_from k rs)
in_modules k [] all = tt
in_modules k (r ∷ rs) all =
    all_join IsNamedWhole (sights_in k r.segment 0 r.module_.items) (sights_from (k + 1) rs)
    (in_module k r.segment 0 r.module_.items (names_in r.module_ all.0)) (in_modules (k + 1) rs all.1)

pub sights_whole : (rs : List Read) → AllByRecursion IsWholeRead rs → AllByRecursion IsNamedWhole (sights rs)
sights_whole rs all = in_modules 0 rs all

-- ---- symbols

abbrev pub IsWholeSymbol : Symbol → Type 0
IsWholeSymbol (ByName y) = HasEightBytes y
IsWholeSymbol (Private m n) = ⊤

symbol_whole : (x : Sight) (kind : ItemKind) (y : Symbol) → IsNamedWhole x → symbol_for x kind ≡ Some y → IsWholeSymbol y
symbol_whole x Sd y named e = subst IsWholeSymbol (some_same e) named
symbol_whole x Pc y named e = subst IsWholeSymbol (some_same e) tt
symbol_whole x Cm y named e = subst IsWholeSymbol (some_same e) named
symbol_whole x LabelItem y named e = subst IsWholeSymbol (some_same e) named
symbol_whole x Er y named e = subst IsWholeSymbol (some_same e) named
symbol_whole x Wx y named e = subst IsWholeSymbol (some_same e) named
symbol_whole x RegisterItem y named e = absurd cc

section_symbol_whole : (x : Sight) (kind : ItemKind) (y : Symbol) → IsNamedWhole x → section_symbol_for x kind ≡ Some y → IsWholeSymbol y
section_symbol_whole x Sd y named e = subst IsWholeSymbol (some_same e) named
section_symbol_whole x Pc y named e = subst IsWholeSymbol (some_same e) tt
section_symbol_whole x Cm y named e = subst IsWholeSymbol (some_same e) named
section_symbol_whole x LabelItem y named e = absurd cc
section_symbol_whole x Er y named e = absurd cc
section_symbol_whole x Wx y named e = absurd cc
section_symbol_whole x RegisterItem y named e = absurd cc

-- ---- sections

section_symbols_whole : (rs : List Read) → AllByRecursion IsWholeRead rs → AllByRecursion IsWholeSymbol (section_symbols rs)
section_symbols_whole rs all =
    all_fold IsWholeSymbol [] (filter_map section_symbol (sights rs)) tt
    (all_made IsNamedWhole IsWholeSymbol section_symbol (λ x y named e. section_symbol_whole x (kind_of x.item) y named e) (sights rs) (sights_whole rs all))

abbrev IsNamedSection : Section → Type 0
IsNamedSection x = HasEightBytes x.name

named_whole : (rs : List Read) (y : Name) (o : Option Sight) → HasEightBytes y → IsNamedSection (named_section rs y o)
named_whole rs y None whole = whole
named_whole rs y (Some first) whole = whole

private_whole : (rs : List Read) (y : Symbol) (o : Option Sight) (x : Section) → option_map (private_section rs y) o ≡ Some x → IsNamedSection x
private_whole rs y None x e = absurd cc
private_whole rs y (Some s) x e = subst IsNamedSection (some_same e) refl

section_whole : (rs : List Read) (y : Symbol) (x : Section) → IsWholeSymbol y → section_of rs y ≡ Some x → IsNamedSection x
section_whole rs (ByName y) x whole e = subst IsNamedSection (some_same e) (named_whole rs y (kept_sd rs y) whole)
section_whole rs (Private m n) x whole e = private_whole rs (Private m n) (sight_at rs m n) x e

pub sections_whole : (rs : List Read) → AllByRecursion IsWholeRead rs → AllByRecursion (λ x. HasEightBytes x.name) (sections rs)
sections_whole rs all = all_made IsWholeSymbol IsNamedSection (section_of rs) (section_whole rs) (section_symbols rs) (section_symbols_whole rs all)

-- ---- unresolved names

target_whole : (t : SymTarget) (y : Name) → RefersWhole t → name_in t ≡ Some y → HasEightBytes y
target_whole (Named x) y whole e = subst HasEightBytes (some_same e) whole
target_whole (Own n) y whole e = absurd cc
target_whole (InRegister x) y whole e = absurd cc
target_whole OfAll y whole e = absurd cc

all_flat : {A B : Type 0} (P : A → Type 0) (Q : B → Type 0) (f : A → List B) → ((x : A) → P x → AllByRecursion Q (f x)) → (xs : List A) → AllByRecursion P xs → AllByRecursion Q (flat_map f xs)
all_flat P Q f gives [] all = tt
all_flat P Q f gives (x ∷ xs) all = all_join Q (f x) (flat_map f xs) (gives x all.0) (all_flat P Q f gives xs all.1)

constants_whole : (rs : List Read) (k : ℕ) (m : SymModule) → IsWhole m → AllByRecursion HasWholeTerms (kept_constants rs k m)
constants_whole rs k m whole =
    let passing : AllByRecursion (λ (c : SymConst). HasWholeTerms c × (is_some (kept_in rs k c.item) ≡ true)) (filter (λ (c : SymConst). is_some (kept_in rs k c.item)) m.constants) =
    all_passing HasWholeTerms (λ (c : SymConst). is_some (kept_in rs k c.item)) m.constants (recursion_from_All HasWholeTerms m.constants whole.terms) in
    all_in_order HasWholeTerms (filter (λ (c : SymConst). is_some (kept_in rs k c.item)) m.constants)
    (all_less (λ (c : SymConst). HasWholeTerms c × (is_some (kept_in rs k c.item) ≡ true)) HasWholeTerms (λ c h. h.0) (filter (λ (c : SymConst). is_some (kept_in rs k c.item)) m.constants) passing)

term_names : (c : SymConst) → HasWholeTerms c → AllByRecursion HasEightBytes (filter_map (λ (t : SymTerm). name_in t.target) c.terms)
term_names c whole =
    all_made (λ (t : SymTerm). RefersWhole t.target) HasEightBytes (λ (t : SymTerm). name_in t.target) (λ t y w e. target_whole t.target y w e) c.terms
    (recursion_from_All (λ (t : SymTerm). RefersWhole t.target) c.terms whole)

referred_whole : (rs : List Read) (k : ℕ) (m : SymModule) → IsWhole m → AllByRecursion HasEightBytes (referred_names rs k m)
referred_whole rs k m whole =
    all_flat HasWholeTerms HasEightBytes (λ (c : SymConst). filter_map (λ (t : SymTerm). name_in t.target) c.terms) term_names (kept_constants rs k m) (constants_whole rs k m whole)

named_symbols : (ys : List Name) → AllByRecursion HasEightBytes ys → AllByRecursion IsWholeSymbol (map (λ y. ByName y) ys)
named_symbols [] all = tt
named_symbols (y ∷ ys) all = (all.0, named_symbols ys all.1)

seen_whole : (rs : List Read) (x : ℕ × Read) → IsWholeRead x.1 → AllByRecursion IsWholeSymbol (seen_in rs x)
seen_whole rs (k, r) whole =
    all_join IsWholeSymbol (filter_map symbol_of (sights_in k r.segment 0 r.module_.items)) (map (λ y. ByName y) (referred_names rs k r.module_))
    (all_made IsNamedWhole IsWholeSymbol symbol_of (λ x y named e. symbol_whole x (kind_of x.item) y named e) (sights_in k r.segment 0 r.module_.items)
    (in_module k r.segment 0 r.module_.items (names_in r.module_ whole)))
    (named_symbols (referred_names rs k r.module_) (referred_whole rs k r.module_ whole))

numbered : (k : ℕ) (rs : List Read) → AllByRecursion IsWholeRead rs → AllByRecursion (λ (x : ℕ × Read). IsWholeRead x.1) (enumerate_from k rs)
numbered k [] all = tt
numbered k (r ∷ rs) all = (all.0, numbered (k + 1) rs all.1)

pub appearance_whole : (rs : List Read) → AllByRecursion IsWholeRead rs → AllByRecursion IsWholeSymbol (appearance rs)
unfolding appearance
appearance_whole rs all =
    all_fold IsWholeSymbol [] (flat_map (seen_in rs) (enumerate_from 0 rs)) tt
    (all_flat (λ (x : ℕ × Read). IsWholeRead x.1) IsWholeSymbol (seen_in rs) (seen_whole rs) (enumerate_from 0 rs) (numbered 0 rs all))

unknown_case : (y : Name) (b : Bool) (weak : Bool) (u : Unknown) → HasEightBytes y → cond b (Some (let x : Unknown = record { name = y; weak = weak } in x)) None ≡ Some u → HasEightBytes u.name
unknown_case y true weak u whole e = subst (λ (x : Unknown). HasEightBytes x.name) (some_same e) whole
unknown_case y false weak u whole e = absurd cc

unknown_whole : (rs : List Read) (y : Symbol) (u : Unknown) → IsWholeSymbol y → unknown_of rs y ≡ Some u → HasEightBytes u.name
unknown_whole rs (ByName y) u whole e = unknown_case y _ (is_weak rs y) u whole e
unknown_whole rs (Private m n) u whole e = absurd cc

pub unresolved_whole : (rs : List Read) → AllByRecursion IsWholeRead rs → AllByRecursion (λ x. HasEightBytes x.name) (unresolved rs)
unfolding unresolved
unresolved_whole rs all = all_made IsWholeSymbol (λ (x : Unknown). HasEightBytes x.name) (unknown_of rs) (unknown_whole rs) (appearance rs) (appearance_whole rs all)

-- ---- registers

first_names : (ys xs : List Name) → AllByRecursion HasEightBytes ys → AllByRecursion HasEightBytes xs → AllByRecursion HasEightBytes (fold (with_first name_eq) ys xs)
first_names ys [] before all = before
first_names ys (x ∷ xs) before all = first_names (with_first name_eq ys x) xs (put (list_any (name_eq x) ys)) all.1
  where
    put : (b : Bool) → AllByRecursion HasEightBytes (cond b ys (ys ++ x ∷ []))
    put true = before
    put false = all_join HasEightBytes ys (x ∷ []) before (all.0, tt)

item_names : (xs : List Sight) → AllByRecursion IsNamedWhole xs → AllByRecursion HasEightBytes (map (λ x. x.item.name) xs)
item_names [] all = tt
item_names (x ∷ xs) all = (all.0, item_names xs all.1)

register_names : (rs : List Read) → AllByRecursion IsWholeRead rs → AllByRecursion IsNamedWhole (register_items rs)
register_names rs all =
    all_less (λ (x : Sight). IsNamedWhole x × (is_register x.item.kind ≡ true)) IsNamedWhole (λ x h. h.0) (register_items rs)
    (all_passing IsNamedWhole (λ (x : Sight). is_register x.item.kind) (sights rs) (sights_whole rs all))

made_registers : (rs : List Read) (ys : List Name) → AllByRecursion HasEightBytes ys → AllByRecursion (λ x. HasEightBytes x.name) (map (register_of rs) ys)
made_registers rs [] all = tt
made_registers rs (y ∷ ys) all = (all.0, made_registers rs ys all.1)

pub registers_whole : (rs : List Read) → AllByRecursion IsWholeRead rs → AllByRecursion (λ x. HasEightBytes x.name) (registers rs)
registers_whole rs all =
    made_registers rs (firsts name_eq (map (λ x. x.item.name) (register_items rs)))
    (first_names [] (map (λ x. x.item.name) (register_items rs)) tt (item_names (register_items rs) (register_names rs all)))
