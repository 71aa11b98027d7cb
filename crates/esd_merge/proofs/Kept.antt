-- What is kept stays kept where one more module is read.
use Rattle.std.proofs.Common.{◌≡◌, ℕ, zero, suc, ◌+◌, ◌<◌, Bool, true, false, not, ◌&&◌, ◌||◌, ◌==◌, cond, List, [], ◌∷◌, ◌++◌, length, fold, slice_get, Option, Some, None, option_map, is_some, refl, sym, ap, ◌∙◌, arith, append_assoc, filter_map}
use Rattle.std.specs.Prelude.{position}
use Rattle.std.specs.List.{find, list_any}
use Rattle.std.specs.Option.{option_or, option_and_then}
use Rattle.std.proofs.lemmas.List.Folds.{find-append, list_any-append}
use Rattle.std.proofs.lemmas.List.Elements.{filter_map-append}
use Rattle.std.proofs.lemmas.Bool.Decides.{nat_tests}
use Rattle.le_bytes.specs.declared.name.Name.{Name}
use Rattle.le_bytes.specs.Names.{name_eq}
use Rattle.sym_mod.specs.declared.module.Item.{Item}
use Rattle.sym_mod.specs.declared.module.ItemKind.{ItemKind}
use Rattle.sym_mod.specs.declared.module.ItemKind.TheVariants.{Sd, Pc, Cm, Label, Er, Wx, Register}
use Rattle.sym_mod.specs.declared.module.SymModule.{SymModule}
use Rattle.sym_mod.specs.Kinds.{kind_of, is_sd}
use Rattle.linking_model.specs.Names.{with_first, firsts}
use Rattle.linking_model.specs.Kept.{Read, Sight, Symbol, ByName, symbol_eq, sights_in, sights, is_at, sight_at, is_sd_named, kept_sd, kept_as, kept_symbol, section_symbol, section_symbols, section_number, kept_in}
use Rattle.esd_index.specs.Marked.{with_some}
use Rattle.esd_index.specs.Steps.{named_if, flag_at, is_kept_over, kept_flags}
use Rattle.esd_lists.proofs.Firsts.{name_refl, name_sym, any_with_first, any_firsts, firsts_more, position_stays, position_found}
use Rattle.esd_lists.proofs.Sights.{any_find, find_among, find_mapped, seen_at}
use Rattle.esd_lists.proofs.Sections.{first_or_none, kept_as_section}
use Rattle.esd_merge.specs.Added.{with_module}
use Rattle.esd_merge.proofs.Grown.{sights_with, sight_at_old}

-- ---- the first SD of a name

kept_sd_with : (rs : List Read) (m : SymModule) (s : ℕ) (y : Name) → kept_sd (with_module rs m s) y ≡ option_or (kept_sd rs y) (find (is_sd_named y) (sights_in (length rs) s 0 m.items))
kept_sd_with rs m s y = ap (find (is_sd_named y)) (sights_with rs m s) ∙ find-append (is_sd_named y) (sights rs) (sights_in (length rs) s 0 m.items)

or_some : {A : Type 0} (o p : Option A) → is_some o ≡ true → option_or o p ≡ o
or_some None p e = absurd cc
or_some (Some x) p e = refl

pub kept_sd_old : (rs : List Read) (m : SymModule) (s : ℕ) (y : Name) → list_any (is_sd_named y) (sights rs) ≡ true → kept_sd (with_module rs m s) y ≡ kept_sd rs y
kept_sd_old rs m s y e =
    kept_sd_with rs m s y ∙ or_some (kept_sd rs y) (find (is_sd_named y) (sights_in (length rs) s 0 m.items)) (sym (any_find (is_sd_named y) (sights rs)) ∙ e)

pub sd_named_itself : (x : Sight) → kind_of x.item ≡ Sd → is_sd_named x.item.name x ≡ true
sd_named_itself x e = rw (e, name_refl x.item.name) refl

pub kept_as_old : (rs : List Read) (m : SymModule) (s : ℕ) (x : Sight) (kind : ItemKind) → (kind ≡ Sd → list_any (is_sd_named x.item.name) (sights rs) ≡ true)
    → kept_as (with_module rs m s) x kind ≡ kept_as rs x kind
kept_as_old rs m s x Sd e = ap (first_or_none x) (kept_sd_old rs m s x.item.name (e refl))
kept_as_old rs m s x Pc e = refl
kept_as_old rs m s x Cm e = refl
kept_as_old rs m s x Label e = refl
kept_as_old rs m s x Er e = refl
kept_as_old rs m s x Wx e = refl
kept_as_old rs m s x Register e = refl

kept_found : (rs : List Read) (m : SymModule) (s k i : ℕ) (o : Option Sight) → sight_at rs k i ≡ o
    → option_and_then (λ x. kept_as (with_module rs m s) x (kind_of x.item)) o ≡ option_and_then (λ x. kept_as rs x (kind_of x.item)) o
kept_found rs m s k i None e = refl
kept_found rs m s k i (Some x) e =
    kept_as_old rs m s x (kind_of x.item) (λ h. find_among (is_at k i) (is_sd_named x.item.name) (sights rs) x e (sd_named_itself x h))

pub kept_symbol_old : (rs : List Read) (m : SymModule) (s k i : ℕ) → k < length rs → kept_symbol (with_module rs m s) k i ≡ kept_symbol rs k i
kept_symbol_old rs m s k i low =
    ap (option_and_then (λ x. kept_as (with_module rs m s) x (kind_of x.item))) (sight_at_old rs m s k i low) ∙ kept_found rs m s k i (sight_at rs k i) refl

-- ---- section numbers

pub section_symbols_with : (rs : List Read) (m : SymModule) (s : ℕ)
    → section_symbols (with_module rs m s) ≡ fold (with_first symbol_eq) (section_symbols rs) (filter_map section_symbol (sights_in (length rs) s 0 m.items))
section_symbols_with rs m s =
    ap (λ (xs : List Sight). firsts symbol_eq (filter_map section_symbol xs)) (sights_with rs m s)
    ∙ ap (firsts symbol_eq) (filter_map-append section_symbol (sights rs) (sights_in (length rs) s 0 m.items))
    ∙ firsts_more (filter_map section_symbol (sights rs)) (filter_map section_symbol (sights_in (length rs) s 0 m.items))

placed_found : (rs : List Read) (k i : ℕ) (o : Option Sight) (y : Symbol) → sight_at rs k i ≡ o → option_and_then (λ x. kept_as rs x (kind_of x.item)) o ≡ Some y
    → list_any (symbol_eq y) (section_symbols rs) ≡ true
placed_found rs k i None y e kept = absurd cc
placed_found rs k i (Some x) y e kept =
    any_firsts y (filter_map section_symbol (sights rs))
    ∙ find_mapped (is_at k i) section_symbol (sights rs) x y e (kept_as_section rs x (kind_of x.item) y kept)

-- what an item is kept as is a section
pub symbol_placed : (rs : List Read) (k i : ℕ) (y : Symbol) → kept_symbol rs k i ≡ Some y → list_any (symbol_eq y) (section_symbols rs) ≡ true
symbol_placed rs k i y e = placed_found rs k i (sight_at rs k i) y refl e

number_found : (rs : List Read) (m : SymModule) (s k i : ℕ) (o : Option Symbol) → kept_symbol rs k i ≡ o
    → option_and_then (section_number (with_module rs m s)) o ≡ option_and_then (section_number rs) o
number_found rs m s k i None e = refl
number_found rs m s k i (Some y) e =
    ap (position (symbol_eq y)) (section_symbols_with rs m s)
    ∙ position_stays y (section_symbols rs) (filter_map section_symbol (sights_in (length rs) s 0 m.items)) (symbol_placed rs k i y e)

pub kept_in_old : (rs : List Read) (m : SymModule) (s k i : ℕ) → k < length rs → kept_in (with_module rs m s) k i ≡ kept_in rs k i
unfolding kept_in
kept_in_old rs m s k i low =
    ap (option_and_then (section_number (with_module rs m s))) (kept_symbol_old rs m s k i low) ∙ number_found rs m s k i (kept_symbol rs k i) refl

some_found : (rs : List Read) (k i : ℕ) (o : Option Symbol) → kept_symbol rs k i ≡ o → is_some (option_and_then (section_number rs) o) ≡ is_some o
some_found rs k i None e = refl
some_found rs k i (Some y) e = position_found (symbol_eq y) (section_symbols rs) ∙ symbol_placed rs k i y e

-- what is kept has a number
pub kept_in_some : (rs : List Read) (k i : ℕ) → is_some (kept_in rs k i) ≡ is_some (kept_symbol rs k i)
unfolding kept_in
kept_in_some rs k i = some_found rs k i (kept_symbol rs k i) refl

-- ---- which SD items are first

at_sym : (m n : ℕ) (x : Sight) → is_at m n x ≡ (m == x.of_module && n == x.number)
at_sym m n x = eq_both m x.of_module n x.number
  where
    eq_both : (a b c d : ℕ) → (b == a && d == c) ≡ (a == b && c == d)
    eq_both a b c d = grind (arith, nat_tests)

itself_at : (x : Sight) → is_at x.of_module x.number x ≡ true
itself_at x = same x.of_module x.number
  where
    same : (a b : ℕ) → (a == a && b == b) ≡ true
    same a b = grind (arith, nat_tests)

not_first : (x f : Sight) (before : List Sight) (p : Sight → Bool) (b : Bool) → is_at f.of_module f.number x ≡ b → find p before ≡ Some f → list_any (is_at x.of_module x.number) before ≡ false
    → is_some (cond b (Some (ByName x.item.name)) None) ≡ false
not_first x f before p true e found none =
    let there : is_at x.of_module x.number f ≡ true = at_sym x.of_module x.number f ∙ e in
    let among : list_any (is_at x.of_module x.number) before ≡ true = find_among p (is_at x.of_module x.number) before f found there in
    absurd (cc (among, none))
not_first x f before p false e found none = refl

first_chosen : (x : Sight) (before : List Sight) (p : Sight → Bool) (o : Option Sight) → find p before ≡ o → list_any (is_at x.of_module x.number) before ≡ false
    → is_some (first_or_none x (option_or o (Some x))) ≡ not (is_some o)
first_chosen x before p None e none = rw (itself_at x) refl
first_chosen x before p (Some f) e none = not_first x f before p (is_at f.of_module f.number x) refl e none

-- an SD item is kept where none of its name came before
pub first_kept : (rs : List Read) (before rest : List Sight) (x : Sight) → sights rs ≡ before ++ x ∷ rest → kind_of x.item ≡ Sd → list_any (is_at x.of_module x.number) before ≡ false
    → is_some (kept_as rs x Sd) ≡ not (list_any (is_sd_named x.item.name) before)
first_kept rs before rest x split kind none =
    let here : find (is_sd_named x.item.name) (x ∷ rest) ≡ Some x = rw (sd_named_itself x kind) refl in
    let found : find (is_sd_named x.item.name) (sights rs) ≡ option_or (find (is_sd_named x.item.name) before) (Some x) =
    ap (find (is_sd_named x.item.name)) split ∙ find-append (is_sd_named x.item.name) before (x ∷ rest) ∙ ap (option_or (find (is_sd_named x.item.name) before)) here in
    ap (λ (o : Option Sight). is_some (first_or_none x o)) found
    ∙ first_chosen x before (is_sd_named x.item.name) (find (is_sd_named x.item.name) before) refl none
    ∙ ap not (sym (any_find (is_sd_named x.item.name) before))

-- ---- the marks of a module's items

kept_here : (rs : List Read) (before rest : List Sight) (x : Sight) (controls : List Symbol) (kind : ItemKind) → kind_of x.item ≡ kind
    → sights rs ≡ before ++ x ∷ rest → list_any (is_at x.of_module x.number) before ≡ false
    → ((y : Name) → list_any (symbol_eq (ByName y)) controls ≡ list_any (is_sd_named y) before)
    → is_kept_over controls x.item kind ≡ is_some (kept_as rs x kind)
kept_here rs before rest x controls Sd e split none known = ap not (known x.item.name) ∙ sym (first_kept rs before rest x split e none)
kept_here rs before rest x controls Pc e split none known = refl
kept_here rs before rest x controls Cm e split none known = refl
kept_here rs before rest x controls Label e split none known = refl
kept_here rs before rest x controls Er e split none known = refl
kept_here rs before rest x controls Wx e split none known = refl
kept_here rs before rest x controls Register e split none known = refl

or_false : (b : Bool) → (b || false) ≡ b
or_false true = refl
or_false false = refl

control_known : (before : List Sight) (x : Sight) (controls : List Symbol) (y : Name) (b : Bool) → is_sd (kind_of x.item) ≡ b
    → list_any (symbol_eq (ByName y)) controls ≡ list_any (is_sd_named y) before
    → list_any (symbol_eq (ByName y)) (with_some controls (cond b (Some (ByName x.item.name)) None)) ≡ (list_any (is_sd_named y) before || (b && name_eq x.item.name y))
control_known before x controls y true e known = any_with_first (ByName y) (ByName x.item.name) controls ∙ rw (known, name_sym y x.item.name) refl
control_known before x controls y false e known = known ∙ sym (or_false (list_any (is_sd_named y) before))

pub controls_known : (before : List Sight) (x : Sight) (controls : List Symbol) → ((y : Name) → list_any (symbol_eq (ByName y)) controls ≡ list_any (is_sd_named y) before)
    → (y : Name) → list_any (symbol_eq (ByName y)) (with_some controls (named_if is_sd x.item)) ≡ list_any (is_sd_named y) (before ++ x ∷ [])
controls_known before x controls known y =
    control_known before x controls y (is_sd (kind_of x.item)) refl (known y)
    ∙ ap (λ (b : Bool). list_any (is_sd_named y) before || b) (sym (or_false (is_sd_named y x)))
    ∙ sym (list_any-append (is_sd_named y) before (x ∷ []))

none_yet : (n k s j : ℕ) (x : Item) (before : List Sight) → k < j → list_any (is_at n j) before ≡ false → list_any (is_at n j) (before ++ seen_at n s k x ∷ []) ≡ false
none_yet n k s j x before low none =
    let other : (n == n && k == j) ≡ false = grind (arith, nat_tests) in
    list_any-append (is_at n j) before (seen_at n s k x ∷ []) ∙ rw (none, other) refl

pub flags_are : (rs : List Read) (n s k : ℕ) (items : List Item) (before : List Sight) (controls : List Symbol)
    → sights rs ≡ before ++ sights_in n s k items
    → ((i : ℕ) → list_any (is_at n (k + i)) before ≡ false)
    → ((y : Name) → list_any (symbol_eq (ByName y)) controls ≡ list_any (is_sd_named y) before)
    → (i : ℕ) → flag_at (kept_flags controls items) i ≡ is_some (option_and_then (λ x. kept_as rs x (kind_of x.item)) (option_map (λ x. seen_at n s (k + i) x) (slice_get items i)))
flags_are rs n s k [] before controls split none known i = refl
flags_are rs n s k (x ∷ items) before controls split none known zero =
    let same : k + 0 ≡ k = omega arith in
    let here : list_any (is_at n k) before ≡ false = rw same at (none 0) in
    rw same (kept_here rs before (sights_in n s (k + 1) items) (seen_at n s k x) controls (kind_of x) refl split here known)
flags_are rs n s k (x ∷ items) before controls split none known (suc i) =
    let same : k + 1 + i ≡ k + suc i = omega arith in
    let on : sights rs ≡ (before ++ seen_at n s k x ∷ []) ++ sights_in n s (k + 1) items = split ∙ sym (append_assoc before (seen_at n s k x ∷ []) (sights_in n s (k + 1) items)) in
    let none_on : (j : ℕ) → list_any (is_at n (k + 1 + j)) (before ++ seen_at n s k x ∷ []) ≡ false = λ j.
    let shift : k + suc j ≡ k + 1 + j = omega arith in
    none_yet n k s (k + 1 + j) x before (omega arith) (rw shift at (none (suc j))) in
    rw same at (flags_are rs n s (k + 1) items (before ++ seen_at n s k x ∷ []) (with_some controls (named_if is_sd x)) on none_on (controls_known before (seen_at n s k x) controls known) i)
