-- What a target of a kept constant means is a section, a label, an unresolved name or a register of the program.
use Rattle.std.proofs.Common.{◌≡◌, ℕ, zero, suc, ◌+◌, ◌<◌, Bool, true, false, ◌&&◌, ◌||◌, cond, List, [], ◌∷◌, length, map, slice_get, Option, Some, None, is_some, unwrap_or, refl, sym, ap, ◌∙◌, subst, arith, filter, filter_map, flat_map, IsFalse}
use Rattle.std.specs.Prelude.{position}
use Rattle.std.specs.List.{find, list_any, AllByRecursion, position_from, enumerate_from}
use Rattle.std.specs.Option.{option_map_or}
use Rattle.std.proofs.lemmas.List.Folds.{list_any-append}
use Rattle.le_bytes.specs.declared.name.Name.{Name}
use Rattle.le_bytes.specs.Names.{name_eq, is_blank}
use Rattle.sym_mod.specs.declared.module.Item.{Item}
use Rattle.sym_mod.specs.declared.module.ItemKind.{ItemKind}
use Rattle.sym_mod.specs.declared.module.ItemKind.TheVariants.{Sd, Pc, Cm, Label as LabelItem, Er, Wx, Register as RegisterItem}
use Rattle.sym_mod.specs.declared.module.Kind.{Kind}
use Rattle.sym_mod.specs.declared.module.Kind.TheVariants.{Address, Branch, Displacement, Total as TotalKind}
use Rattle.sym_mod.specs.declared.module.SymConst.{SymConst}
use Rattle.sym_mod.specs.declared.module.SymTerm.{SymTerm}
use Rattle.sym_mod.specs.declared.module.SymTarget.{SymTarget}
use Rattle.sym_mod.specs.declared.module.SymTarget.TheVariants.{Own, Named, Register as InRegister, Total as OfAll}
use Rattle.sym_mod.specs.declared.module.SymModule.{SymModule}
use Rattle.sym_mod.specs.declared.program.Label.{Label}
use Rattle.sym_mod.specs.declared.program.Register.{Register}
use Rattle.sym_mod.specs.declared.program.Target.{Target}
use Rattle.sym_mod.specs.declared.program.Target.TheVariants.{Section as InSection, Label as AtLabel, Unresolved, Register as OfRegister}
use Rattle.sym_mod.specs.declared.program.Unknown.{Unknown}
use Rattle.sym_mod.specs.Kinds.{kind_of, is_pc, is_label, is_er, is_wx, is_register}
use Rattle.sym_mod.specs.Sound.{is_register_named, RefersToSymbol, FitsKind, IsSymbolOf, TargetFitsKind}
use Rattle.linking_model.specs.Names.{in_order, inserted}
use Rattle.linking_model.specs.Kept.{Read, Sight, Symbol, ByName, Private, symbol_eq, sights, sights_in, is_at, sight_at, symbol_of, section_symbol, section_symbols, section_number, kept_in, stands_before, kept_constants, name_in, referred_names, seen_in, appearance}
use Rattle.linking_model.specs.Merged.{sections, labels, definition, has_item, is_referred, is_name_target, is_label_target, is_referenced, unknown_of, unresolved, registers, named_target, own_target, meaning, program_of}
use Rattle.esd_lists.specs.Indexed.{content_of}
use Rattle.esd_lists.specs.Listed.{has}
use Rattle.esd_lists.proofs.Firsts.{name_refl, any_firsts, position_is, position_found}
use Rattle.esd_lists.proofs.Sights.{any_find, find_among, find_mapped, seen_at, sight_at_is}
use Rattle.esd_lists.proofs.Unknowns.{appears, any_flat, any_options, any_named, symbol_passes, both_true}
use Rattle.esd_merge.proofs.Defining.{in_section}
use Rattle.esd_merge.proofs.Brought.{register_place}
use Rattle.esd_merge.proofs.SoundLists.{some_and, section_low}

-- ---- lists

or_true : (b : Bool) → (b || true) ≡ true
or_true true = refl
or_true false = refl

-- an element that passes a test is an element that does
abbrev pub IsIn : {A : Type 0} → List A → A → Type 0
IsIn {A} all x = (q : A → Bool) → q x ≡ true → list_any q all ≡ true

among_all : {A : Type 0} (all xs : List A) → ((q : A → Bool) → list_any q xs ≡ true → list_any q all ≡ true) → AllByRecursion (IsIn all) xs
among_all all [] sub = tt
among_all all (x ∷ xs) sub = (λ q e. sub q (rw e refl), among_all all xs (λ q e. sub q (rw e (or_true (q x)))))

pub all_in : {A : Type 0} (xs : List A) → AllByRecursion (IsIn xs) xs
all_in xs = among_all xs xs (λ q e. e)

any_at : (q : ℕ × Read → Bool) (m k : ℕ) (rs : List Read) (r : Read) → slice_get rs k ≡ Some r → q (m + k, r) ≡ true → list_any q (enumerate_from m rs) ≡ true
any_at q m k [] r e h = absurd cc
any_at q m zero (x ∷ rs) r e h =
    let same : x ≡ r = cc in
    let none : m + 0 ≡ m = omega arith in
    let at_m : q (m, r) ≡ true = subst (λ (j : ℕ). q (j, r) ≡ true) none h in
    let here : q (m, x) ≡ true = subst (λ (z : Read). q (m, z) ≡ true) (sym same) at_m in
    rw here refl
any_at q m (suc k) (x ∷ rs) r e h =
    let shift : m + suc k ≡ m + 1 + k = omega arith in
    let later : list_any q (enumerate_from (m + 1) rs) ≡ true = any_at q (m + 1) k rs r e (subst (λ (j : ℕ). q (j, r) ≡ true) shift h) in
    rw later (or_true (q (m, x)))

swap : (a b c : Bool) → (b || (a || c)) ≡ (a || (b || c))
swap true true c = refl
swap true false c = refl
swap false true c = refl
swap false false c = refl

any_inserted : {A : Type 0} (p : A → Bool) (before : A → A → Bool) (x : A) (xs : List A) → list_any p (inserted before x xs) ≡ (p x || list_any p xs)
any_inserted p before x [] = refl
any_inserted {A} p before x (y ∷ ys) = chosen (before y x) (any_inserted p before x ys)
  where
    chosen : (b : Bool) → list_any p (inserted before x ys) ≡ (p x || list_any p ys) → list_any p (cond b (y ∷ inserted before x ys) (x ∷ y ∷ ys)) ≡ (p x || (p y || list_any p ys))
    chosen true more = ap (λ (b : Bool). p y || b) more ∙ swap (p x) (p y) (list_any p ys)
    chosen false more = refl

any_ordered : {A : Type 0} (p : A → Bool) (before : A → A → Bool) (xs : List A) → list_any p (in_order before xs) ≡ list_any p xs
any_ordered p before [] = refl
any_ordered p before (x ∷ xs) = any_inserted p before x (in_order before xs) ∙ ap (λ (b : Bool). p x || b) (any_ordered p before xs)

any_filtered : {A : Type 0} (p q : A → Bool) (xs : List A) → list_any p (filter q xs) ≡ list_any (λ x. q x && p x) xs
any_filtered p q [] = refl
any_filtered {A} p q (x ∷ xs) = chosen (q x) (any_filtered p q xs)
  where
    chosen : (b : Bool) → list_any p (filter q xs) ≡ list_any (λ x. q x && p x) xs → list_any p (cond b (x ∷ filter q xs) (filter q xs)) ≡ (b && p x || list_any (λ x. q x && p x) xs)
    chosen true more = ap (λ (b : Bool). p x || b) more
    chosen false more = more

any_map : {A B : Type 0} (p : B → Bool) (f : A → B) (xs : List A) → list_any p (map f xs) ≡ list_any (λ x. p (f x)) xs
any_map p f [] = refl
any_map p f (x ∷ xs) = ap (λ (b : Bool). p (f x) || b) (any_map p f xs)

from_low : {A : Type 0} (p : A → Bool) (n j : ℕ) (xs : List A) → position_from p n xs ≡ Some j → j < n + length xs
from_low p n j [] e = absurd cc
from_low {A} p n j (x ∷ xs) e = chosen (p x) e (from_low p (n + 1) j xs)
  where
    chosen : (b : Bool) → cond b (Some n) (position_from p (n + 1) xs) ≡ Some j → (position_from p (n + 1) xs ≡ Some j → j < n + 1 + length xs) → j < n + length (x ∷ xs)
    chosen true e more =
        let same : n ≡ j = cc in
        omega (arith, same)
    chosen false e more = omega (arith, more e)

position_low : {A : Type 0} (p : A → Bool) (xs : List A) (j : ℕ) → position p xs ≡ Some j → j < length xs
position_low p xs j e =
    let low : j < 0 + length xs = from_low p 0 j xs (sym (position_is p xs) ∙ e) in
    omega (arith, low)

low_case : {A : Type 0} (p : A → Bool) (xs : List A) (o : Option ℕ) → position p xs ≡ o → is_some o ≡ true → unwrap_or o 0 < length xs
low_case p xs None e some = absurd cc
low_case p xs (Some j) e some = position_low p xs j e

-- the place of an element that passes is in the list
place_low : {A : Type 0} (p : A → Bool) (xs : List A) → list_any p xs ≡ true → unwrap_or (position p xs) 0 < length xs
place_low p xs e = low_case p xs (position p xs) refl (position_found p xs ∙ e)

place_case : {A : Type 0} (q : A → Bool) (x : A) (xs : List A) (b : Bool) → q x ≡ b → (b || list_any q xs) ≡ true → (list_any q xs ≡ true → (n : ℕ) × (z : A) × (slice_get xs n ≡ Some z) × (q z ≡ true))
    → (n : ℕ) × (z : A) × (slice_get (x ∷ xs) n ≡ Some z) × (q z ≡ true)
place_case q x xs true d e more = (0, x, refl, d)
place_case q x xs false d e more =
    let later = more e in
    (suc later.0, later.1, later.2, later.3)

some_place : {A : Type 0} (q : A → Bool) (xs : List A) → list_any q xs ≡ true → (n : ℕ) × (z : A) × (slice_get xs n ≡ Some z) × (q z ≡ true)
some_place q [] e = absurd cc
some_place q (x ∷ xs) e = place_case q x xs (q x) refl e (some_place q xs)

-- ---- a target to which a kept constant refers

-- the term t of the constant c of module k, which is kept
pub record Refers (rs : List Read) (k : ℕ) (r : Read) (c : SymConst) (t : SymTerm) : Type 0 where
  pub module_at : slice_get rs k ≡ Some r
  pub among : IsIn r.module_.constants c
  pub kept : is_some (kept_in rs k c.item) ≡ true
  pub term : IsIn c.terms t

kept_any : (rs : List Read) (k : ℕ) (r : Read) (c : SymConst) (p : SymConst → Bool) → IsIn r.module_.constants c → is_some (kept_in rs k c.item) ≡ true → p c ≡ true → list_any p (kept_constants rs k r.module_) ≡ true
kept_any rs k r c p among kept here =
    any_ordered p stands_before (filter (λ (c : SymConst). is_some (kept_in rs k c.item)) r.module_.constants)
    ∙ any_filtered p (λ (c : SymConst). is_some (kept_in rs k c.item)) r.module_.constants
    ∙ among (λ (c : SymConst). is_some (kept_in rs k c.item) && p c) (rw (kept, here) refl)

zero_on : (k : ℕ) → 0 + k ≡ k
zero_on k = omega arith

referred : (rs : List Read) (k : ℕ) (r : Read) (c : SymConst) (t : SymTerm) (test : SymModule → SymTarget → Bool) → Refers rs k r c t → test r.module_ t.target ≡ true → is_referred rs test ≡ true
referred rs k r c t test refers here =
    let one : list_any (λ (t : SymTerm). test r.module_ t.target) c.terms ≡ true = refers.term (λ t. test r.module_ t.target) here in
    let all : list_any (λ (c : SymConst). list_any (λ t. test r.module_ t.target) c.terms) (kept_constants rs k r.module_) ≡ true =
    kept_any rs k r c (λ c. list_any (λ t. test r.module_ t.target) c.terms) refers.among refers.kept one in
    any_at (λ (m, r). list_any (λ (c : SymConst). list_any (λ t. test r.module_ t.target) c.terms) (kept_constants rs m r.module_)) 0 k rs r refers.module_at (rw (zero_on k) all)

named_any : (rs : List Read) (k : ℕ) (r : Read) (c : SymConst) (t : SymTerm) (y : Name) → Refers rs k r c t → name_in t.target ≡ Some y → list_any (symbol_eq (ByName y)) (map (λ (n : Name). ByName n) (referred_names rs k r.module_)) ≡ true
named_any rs k r c t y refers e =
    let one : list_any (λ (t : SymTerm). option_map_or (name_eq y) (name_in t.target) false) c.terms ≡ true = refers.term (λ t. option_map_or (name_eq y) (name_in t.target) false) (rw e (name_refl y)) in
    let here : list_any (name_eq y) (filter_map (λ (t : SymTerm). name_in t.target) c.terms) ≡ true = any_options (name_eq y) (λ (t : SymTerm). name_in t.target) c.terms ∙ one in
    any_map (symbol_eq (ByName y)) (λ (n : Name). ByName n) (referred_names rs k r.module_)
    ∙ any_flat (name_eq y) (λ (c : SymConst). filter_map (λ t. name_in t.target) c.terms) (kept_constants rs k r.module_)
    ∙ kept_any rs k r c (λ c. list_any (name_eq y) (filter_map (λ t. name_in t.target) c.terms)) refers.among refers.kept here

named_appears : (rs : List Read) (k : ℕ) (r : Read) (c : SymConst) (t : SymTerm) (y : Name) → Refers rs k r c t → name_in t.target ≡ Some y → list_any (symbol_eq (ByName y)) (appearance rs) ≡ true
unfolding appearance
named_appears rs k r c t y refers e =
    let names : list_any (symbol_eq (ByName y)) (map (λ (n : Name). ByName n) (referred_names rs k r.module_)) ≡ true = named_any rs k r c t y refers e in
    let here : list_any (symbol_eq (ByName y)) (seen_in rs (k, r)) ≡ true =
    list_any-append (symbol_eq (ByName y)) (filter_map symbol_of (sights_in k r.segment 0 r.module_.items)) (map (λ (n : Name). ByName n) (referred_names rs k r.module_)) ∙ rw names (or_true (list_any (symbol_eq (ByName y)) (filter_map symbol_of (sights_in k r.segment 0 r.module_.items)))) in
    any_firsts (ByName y) (flat_map (seen_in rs) (enumerate_from 0 rs)) ∙ any_flat (symbol_eq (ByName y)) (seen_in rs) (enumerate_from 0 rs)
    ∙ any_at (λ x. list_any (symbol_eq (ByName y)) (seen_in rs x)) 0 k rs r refers.module_at (rw (zero_on k) here)

-- ---- what a name means

-- a name to which something refers, and which is not defined, is unresolved
unresolved_has : (rs : List Read) (y : Name) → is_referenced rs y ≡ true → list_any (symbol_eq (ByName y)) (appearance rs) ≡ true → is_some (definition rs y) ≡ false → list_any (λ (u : Unknown). name_eq u.name y) (unresolved rs) ≡ true
unfolding unresolved
unresolved_has rs y referenced there none =
    any_options (λ (u : Unknown). name_eq u.name y) (unknown_of rs) (appearance rs)
    ∙ symbol_passes (λ s. option_map_or (λ (u : Unknown). name_eq u.name y) (unknown_of rs s) false) (ByName y) (appearance rs) (find (symbol_eq (ByName y)) (appearance rs)) refl
    (sym (any_find (symbol_eq (ByName y)) (appearance rs)) ∙ there) (rw (referenced, none) (name_refl y))

defined_label : (rs : List Read) (y : Name) (i : ℕ) → section_number rs (ByName y) ≡ None → position (λ (x : Label). name_eq x.name y) (labels rs) ≡ Some i → definition rs y ≡ Some (AtLabel i)
unfolding definition
defined_label rs y i d e = rw (d, e) refl

not_defined : (rs : List Read) (y : Name) → section_number rs (ByName y) ≡ None → position (λ (x : Label). name_eq x.name y) (labels rs) ≡ None → definition rs y ≡ None
unfolding definition
not_defined rs y d e = rw (d, e) refl

section_fits : (rs : List Read) (i : ℕ) → i < length (sections rs) → IsSymbolOf (program_of rs) (InSection i)
unfolding program_of
section_fits rs i low = low

label_fits : (rs : List Read) (i : ℕ) → i < length (labels rs) → IsSymbolOf (program_of rs) (AtLabel i)
unfolding program_of
label_fits rs i low = low

unresolved_fits : (rs : List Read) (i : ℕ) → i < length (unresolved rs) → IsSymbolOf (program_of rs) (Unresolved i)
unfolding program_of
unresolved_fits rs i low = low

register_fits : (rs : List Read) (i : ℕ) → i < length (registers rs) → TargetFitsKind (program_of rs) Displacement (OfRegister i)
unfolding program_of
register_fits rs i low = low

named_case : (rs : List Read) (y : Name) (a b : Option ℕ) → section_number rs (ByName y) ≡ a → position (λ (x : Label). name_eq x.name y) (labels rs) ≡ b
    → (is_some (definition rs y) ≡ false → list_any (λ (u : Unknown). name_eq u.name y) (unresolved rs) ≡ true) → IsSymbolOf (program_of rs) (named_target rs y (definition rs y))
named_case rs y (Some i) b d e wanting =
    subst (λ (o : Option Target). IsSymbolOf (program_of rs) (named_target rs y o)) (in_section rs y i d) (section_fits rs i (section_low rs (ByName y) i d))
named_case rs y None (Some i) d e wanting =
    subst (λ (o : Option Target). IsSymbolOf (program_of rs) (named_target rs y o)) (sym (defined_label rs y i d e)) (label_fits rs i (position_low (λ (x : Label). name_eq x.name y) (labels rs) i e))
named_case rs y None None d e wanting =
    let none : definition rs y ≡ None = not_defined rs y d e in
    let there : list_any (λ (u : Unknown). name_eq u.name y) (unresolved rs) ≡ true = wanting (ap is_some none) in
    subst (λ (o : Option Target). IsSymbolOf (program_of rs) (named_target rs y o)) (sym none)
    (unresolved_fits rs (unwrap_or (position (λ (u : Unknown). name_eq u.name y) (unresolved rs)) 0) (place_low (λ (u : Unknown). name_eq u.name y) (unresolved rs) there))

-- a name that is defined, or to which something refers, means a symbol of the program
named_fits : (rs : List Read) (y : Name) → (is_some (definition rs y) ≡ false → list_any (λ (u : Unknown). name_eq u.name y) (unresolved rs) ≡ true) → IsSymbolOf (program_of rs) (named_target rs y (definition rs y))
named_fits rs y wanting = named_case rs y (section_number rs (ByName y)) (position (λ (x : Label). name_eq x.name y) (labels rs)) refl refl wanting

name_fits : (rs : List Read) (k : ℕ) (r : Read) (c : SymConst) (t : SymTerm) (y : Name) → Refers rs k r c t → t.target ≡ Named y → IsSymbolOf (program_of rs) (named_target rs y (definition rs y))
name_fits rs k r c t y refers is =
    let passes : (is_name_target y t.target || is_label_target y r.module_ t.target) ≡ true = rw (is, name_refl y) refl in
    let any : is_referred rs (λ m t. is_name_target y t || is_label_target y m t) ≡ true = referred rs k r c t (λ m t. is_name_target y t || is_label_target y m t) refers passes in
    let referenced : is_referenced rs y ≡ true = rw any (or_true (has_item rs (λ k. is_er k || is_wx k) y)) in
    named_fits rs y (unresolved_has rs y referenced (named_appears rs k r c t y refers (rw is refl)))

-- ---- what an item means

kind_back : (x : Item) (kind : ItemKind) (b : Bool) (k : ItemKind) → is_blank x.name ≡ b → x.kind ≡ k → kind_of x ≡ kind → is_pc kind ≡ false → k ≡ kind
kind_back x kind true Sd d e is other = absurd (blank_sd (sym (rw (d, e) refl) ∙ is) other)
  where
    blank_sd : Pc ≡ kind → is_pc kind ≡ false → ⊥
    blank_sd same other = absurd (cc (ap is_pc same, other))
kind_back x kind false Sd d e is other = sym (rw (d, e) refl) ∙ is
kind_back x kind true Pc d e is other = sym (rw (d, e) refl) ∙ is
kind_back x kind false Pc d e is other = sym (rw (d, e) refl) ∙ is
kind_back x kind true Cm d e is other = sym (rw (d, e) refl) ∙ is
kind_back x kind false Cm d e is other = sym (rw (d, e) refl) ∙ is
kind_back x kind true LabelItem d e is other = sym (rw (d, e) refl) ∙ is
kind_back x kind false LabelItem d e is other = sym (rw (d, e) refl) ∙ is
kind_back x kind true Er d e is other = sym (rw (d, e) refl) ∙ is
kind_back x kind false Er d e is other = sym (rw (d, e) refl) ∙ is
kind_back x kind true Wx d e is other = sym (rw (d, e) refl) ∙ is
kind_back x kind false Wx d e is other = sym (rw (d, e) refl) ∙ is
kind_back x kind true RegisterItem d e is other = sym (rw (d, e) refl) ∙ is
kind_back x kind false RegisterItem d e is other = sym (rw (d, e) refl) ∙ is

abbrev wanting : List Read → Name → Type 0
wanting rs y = is_some (definition rs y) ≡ false → list_any (λ (u : Unknown). name_eq u.name y) (unresolved rs) ≡ true

number_some : (rs : List Read) (k n : ℕ) (z : Sight) (s : Symbol) → sight_at rs k n ≡ Some z → section_symbol z ≡ Some s → is_some (section_number rs s) ≡ true
number_some rs k n z s seen is =
    position_found (symbol_eq s) (section_symbols rs) ∙ any_firsts s (filter_map section_symbol (sights rs)) ∙ find_mapped (is_at k n) section_symbol (sights rs) z s seen is

defined_case : (rs : List Read) (y : Name) (o : Option ℕ) → section_number rs (ByName y) ≡ o → is_some o ≡ true → is_some (definition rs y) ≡ true
defined_case rs y None e some = absurd cc
defined_case rs y (Some i) e some = ap is_some (sym (in_section rs y i e))

section_wanting : (rs : List Read) (k n : ℕ) (z : Sight) (y : Name) → sight_at rs k n ≡ Some z → section_symbol z ≡ Some (ByName y) → wanting rs y
section_wanting rs k n z y seen is none =
    let some : is_some (definition rs y) ≡ true = defined_case rs y (section_number rs (ByName y)) refl (number_some rs k n z (ByName y) seen is) in
    absurd (cc (some, none))

reference_wanting : (rs : List Read) (k n : ℕ) (z : Sight) → sight_at rs k n ≡ Some z → symbol_of z ≡ Some (ByName z.item.name) → (is_er (kind_of z.item) || is_wx (kind_of z.item)) ≡ true → wanting rs z.item.name
reference_wanting rs k n z seen is kind =
    let any : has_item rs (λ k. is_er k || is_wx k) z.item.name ≡ true =
    find_among (is_at k n) (λ (x : Sight). (is_er (kind_of x.item) || is_wx (kind_of x.item)) && name_eq x.item.name z.item.name) (sights rs) z seen (rw (kind, name_refl z.item.name) refl) in
    unresolved_has rs z.item.name (rw any refl) (appears rs (ByName z.item.name) (find_mapped (is_at k n) symbol_of (sights rs) z (ByName z.item.name) seen is))

label_wanting : (rs : List Read) (k n : ℕ) (r : Read) (c : SymConst) (t : SymTerm) (x : Item) (z : Sight) → Refers rs k r c t → t.target ≡ Own n → slice_get r.module_.items n ≡ Some x → is_label x.kind ≡ true
    → sight_at rs k n ≡ Some z → symbol_of z ≡ Some (ByName x.name) → wanting rs x.name
label_wanting rs k n r c t x z refers is at_n kind seen symbol =
    let passes : (is_name_target x.name t.target || is_label_target x.name r.module_ t.target) ≡ true = rw (is, at_n, kind, name_refl x.name) refl in
    let any : is_referred rs (λ m t. is_name_target x.name t || is_label_target x.name m t) ≡ true = referred rs k r c t (λ m t. is_name_target x.name t || is_label_target x.name m t) refers passes in
    let referenced : is_referenced rs x.name ≡ true = rw any (or_true (has_item rs (λ k. is_er k || is_wx k) x.name)) in
    unresolved_has rs x.name referenced (appears rs (ByName x.name) (find_mapped (is_at k n) symbol_of (sights rs) z (ByName x.name) seen symbol))

own_private : (rs : List Read) (k n : ℕ) (x : Item) → kind_of x ≡ Pc → is_some (section_number rs (Private k n)) ≡ true → IsSymbolOf (program_of rs) (own_target rs k n (Some x))
own_private rs k n x kind some =
    let means : own_target rs k n (Some x) ≡ InSection (unwrap_or (section_number rs (Private k n)) 0) = rw kind refl in
    subst (IsSymbolOf (program_of rs)) (sym means) (section_fits rs (unwrap_or (section_number rs (Private k n)) 0) (number_case (section_number rs (Private k n)) refl some))
  where
    number_case : (o : Option ℕ) → section_number rs (Private k n) ≡ o → is_some o ≡ true → unwrap_or o 0 < length (sections rs)
    number_case None e some = absurd cc
    number_case (Some i) e some = section_low rs (Private k n) i e

own_case : (rs : List Read) (k n : ℕ) (r : Read) (c : SymConst) (t : SymTerm) (x : Item) (kind : ItemKind) → Refers rs k r c t → t.target ≡ Own n → slice_get r.module_.items n ≡ Some x → is_register x.kind ≡ false
    → sight_at rs k n ≡ Some (seen_at k r.segment n x) → kind_of x ≡ kind → IsSymbolOf (program_of rs) (own_target rs k n (Some x))
own_case rs k n r c t x Sd refers is at_n other seen kind =
    rw kind (named_fits rs x.name (section_wanting rs k n (seen_at k r.segment n x) x.name seen (rw kind refl)))
own_case rs k n r c t x Pc refers is at_n other seen kind = own_private rs k n x kind (number_some rs k n (seen_at k r.segment n x) (Private k n) seen (rw kind refl))
own_case rs k n r c t x Cm refers is at_n other seen kind =
    rw kind (named_fits rs x.name (section_wanting rs k n (seen_at k r.segment n x) x.name seen (rw kind refl)))
own_case rs k n r c t x LabelItem refers is at_n other seen kind =
    let label : x.kind ≡ LabelItem = kind_back x LabelItem (is_blank x.name) x.kind refl refl kind refl in
    rw kind (named_fits rs x.name (label_wanting rs k n r c t x (seen_at k r.segment n x) refers is at_n (ap is_label label) seen (rw kind refl)))
own_case rs k n r c t x Er refers is at_n other seen kind =
    rw kind (named_fits rs x.name (reference_wanting rs k n (seen_at k r.segment n x) seen (rw kind refl) (rw kind refl)))
own_case rs k n r c t x Wx refers is at_n other seen kind =
    rw kind (named_fits rs x.name (reference_wanting rs k n (seen_at k r.segment n x) seen (rw kind refl) (rw kind refl)))
own_case rs k n r c t x RegisterItem refers is at_n other seen kind =
    let register : x.kind ≡ RegisterItem = kind_back x RegisterItem (is_blank x.name) x.kind refl refl kind refl in
    absurd (cc (ap is_register register, other))

pub seen_here : (rs : List Read) (m n : ℕ) (r : Read) (x : Item) → slice_get rs m ≡ Some r → slice_get r.module_.items n ≡ Some x → sight_at rs m n ≡ Some (seen_at m r.segment n x)
seen_here rs m n r x at_m at_n = sight_at_is rs m n ∙ rw (at_m, at_n) refl

symbol_case : (rs : List Read) (k : ℕ) (r : Read) (c : SymConst) (t : SymTerm) (target : SymTarget) → Refers rs k r c t → t.target ≡ target → RefersToSymbol r.module_.items target → IsSymbolOf (program_of rs) (meaning rs k r.module_ target)
symbol_case rs k r c t (Own n) refers is fits =
    let x = some_and (λ (x : Item). IsFalse (is_register x.kind)) (slice_get r.module_.items n) fits in
    let means : IsSymbolOf (program_of rs) (own_target rs k n (Some x.0)) = own_case rs k n r c t x.0 (kind_of x.0) refers is x.1 x.2 (seen_here rs k n r x.0 refers.module_at x.1) refl in
    subst (λ (o : Option Item). IsSymbolOf (program_of rs) (own_target rs k n o)) (sym x.1) means
symbol_case rs k r c t (Named y) refers is fits = name_fits rs k r c t y refers is
symbol_case rs k r c t (InRegister y) refers is fits = absurd fits
symbol_case rs k r c t OfAll refers is fits = absurd fits

-- ---- registers

registers_has : (rs : List Read) (y : Name) → has (content_of rs).registers y ≡ has_item rs is_register y
unfolding content_of
registers_has rs y = any_firsts (ByName y) (filter_map _ (sights rs)) ∙ any_named is_register y (sights rs)

register_kind : (x : Item) (b : Bool) (k : ItemKind) → is_blank x.name ≡ b → x.kind ≡ k → is_register k ≡ true → kind_of x ≡ RegisterItem
register_kind x true RegisterItem d e h = rw (d, e) refl
register_kind x false RegisterItem d e h = rw (d, e) refl
register_kind x b Sd d e h = absurd cc
register_kind x b Pc d e h = absurd cc
register_kind x b Cm d e h = absurd cc
register_kind x b LabelItem d e h = absurd cc
register_kind x b Er d e h = absurd cc
register_kind x b Wx d e h = absurd cc

register_low : (rs : List Read) (k : ℕ) (r : Read) (y : Name) → slice_get rs k ≡ Some r → list_any (is_register_named y) r.module_.items ≡ true → unwrap_or (position (λ (r : Register). name_eq r.name y) (registers rs)) 0 < length (registers rs)
register_low rs k r y at_k e =
    let place = some_place (is_register_named y) r.module_.items e in
    let is = both_true (is_register place.1.kind) (name_eq place.1.name y) place.3 in
    let kind : kind_of place.1 ≡ RegisterItem = register_kind place.1 (is_blank place.1.name) place.1.kind refl refl is.0 in
    let item : has_item rs is_register y ≡ true =
    find_among (is_at k place.0) (λ (x : Sight). is_register (kind_of x.item) && name_eq x.item.name y) (sights rs) (seen_at k r.segment place.0 place.1) (seen_here rs k place.0 r place.1 at_k place.2) (rw (kind, is.1) refl) in
    let some : is_some (position (λ (r : Register). name_eq r.name y) (registers rs)) ≡ true =
    ap is_some (sym (register_place rs (content_of rs) y refl)) ∙ position_found (symbol_eq (ByName y)) (content_of rs).registers ∙ registers_has rs y ∙ item in
    low_case (λ (r : Register). name_eq r.name y) (registers rs) (position (λ (r : Register). name_eq r.name y) (registers rs)) refl some

-- what a target of a kept constant means fits the constant's kind
target_case : (rs : List Read) (k : ℕ) (r : Read) (c : SymConst) (t : SymTerm) (kind : Kind) (target : SymTarget) → Refers rs k r c t → t.target ≡ target → FitsKind r.module_.items kind target → TargetFitsKind (program_of rs) kind (meaning rs k r.module_ target)
target_case rs k r c t Address target refers is fits = symbol_case rs k r c t target refers is fits
target_case rs k r c t Branch target refers is fits = symbol_case rs k r c t target refers is fits
target_case rs k r c t Displacement (InRegister y) refers is fits = register_fits rs (unwrap_or (position (λ (r : Register). name_eq r.name y) (registers rs)) 0) (register_low rs k r y refers.module_at fits)
target_case rs k r c t Displacement (Own n) refers is fits = absurd fits
target_case rs k r c t Displacement (Named y) refers is fits = absurd fits
target_case rs k r c t Displacement OfAll refers is fits = absurd fits
target_case rs k r c t TotalKind OfAll refers is fits = tt
target_case rs k r c t TotalKind (Own n) refers is fits = absurd fits
target_case rs k r c t TotalKind (Named y) refers is fits = absurd fits
target_case rs k r c t TotalKind (InRegister y) refers is fits = absurd fits

pub target_fits : (rs : List Read) (k : ℕ) (r : Read) (c : SymConst) (t : SymTerm) (kind : Kind) → Refers rs k r c t → FitsKind r.module_.items kind t.target → TargetFitsKind (program_of rs) kind (meaning rs k r.module_ t.target)
target_fits rs k r c t kind refers fits = target_case rs k r c t kind t.target refers refl fits
