-- A program has few symbols, and no two of its names or of its registers are the same.
use Rattle.std.proofs.Common.{◌≡◌, ◌≢◌, ap₂, flat_map, option_map, ◌+◌, ◌≤◌, Bool, true, false, not, ◌&&◌, ◌||◌, cond, List, [], ◌∷◌, ◌++◌, length, map, Option, Some, None, is_some, refl, sym, ap, ◌∙◌, subst, arith, append-nil, append_assoc, filter, filter_map, AllPairs, Decides}
use Rattle.std.specs.List.{list_any, cons_option, enumerate_from, AllByRecursion, IsDistinct}
use Rattle.std.specs.Option.{option_map_or}
use Rattle.std.proofs.lemmas.List.{length-append}
use Rattle.std.proofs.lemmas.List.Folds.{list_any-append}
use Rattle.std.proofs.lemmas.List.Elements.{filter_map-append}
use Rattle.std.proofs.lemmas.Map.Made.{length-le_from_is_member, AllPairs-from_IsDistinct}
use Rattle.le_bytes.specs.declared.name.Name.{Name}
use Rattle.le_bytes.specs.Names.{name_eq}
use Rattle.sym_mod.specs.declared.module.ItemKind.{ItemKind}
use Rattle.sym_mod.specs.declared.module.ItemKind.TheVariants.{Sd, Pc, Cm, Label as LabelItem, Er, Wx, Register as RegisterItem}
use Rattle.sym_mod.specs.declared.program.Section.{Section}
use Rattle.sym_mod.specs.declared.program.Label.{Label}
use Rattle.sym_mod.specs.declared.program.Unknown.{Unknown}
use Rattle.sym_mod.specs.declared.program.Register.{Register}
use Rattle.sym_mod.specs.Kinds.{kind_of, is_sd, is_cm, is_label, is_register, is_private}
use Rattle.sym_mod.specs.Sound.{names_of}
use Rattle.linking_model.specs.Names.{firsts}
use Rattle.linking_model.specs.Kept.{Read, Sight, Symbol, ByName, Private, symbol_eq, sights, section_symbol, section_symbols, kept_sd, sight_at, kept_as, kept_in, seen_in, appearance}
use Rattle.linking_model.specs.Merged.{named_section, private_section, section_of, sections, label_at, is_label_named, label_of, labels, definition, is_kept_section, is_kept_label, clashes, first_clash, double_definition, is_referenced, is_weak, unknown_of, unresolved, register_items, register_of, registers, program_of}
use Rattle.esd_index.specs.Steps.{named_if}
use Rattle.esd_lists.specs.Indexed.{content_of}
use Rattle.esd_lists.specs.Listed.{has}
use Rattle.esd_lists.proofs.Firsts.{name_same, name_refl, name_sym, symbol_refl, symbol_same, any_firsts}
use Rattle.esd_lists.proofs.Unknowns.{any_or, both_true, head_any, head_name, some_map, labels_any, labels_has, defined_is}
use Rattle.esd_lists.proofs.Registers.{register_symbols}
use Rattle.esd_lists.proofs.Small.{section_appears, filter_map_short}
use Rattle.esd_lists.proofs.Distinct.{symbols_equal, firsts_distinct}
use Rattle.esd_merge.specs.Added.{IsMerged}
use Rattle.esd_merge.proofs.Clashes.{any_section, any_kept, all_map}
use Rattle.esd_merge.proofs.Joining.{no_clash}
use Rattle.esd_merge.proofs.Few.{few}

-- ---- lists

or_true : (b : Bool) → (b || true) ≡ true
or_true true = refl
or_true false = refl

or_left : (a b : Bool) → a ≡ true → (a || b) ≡ true
or_left true b e = refl
or_left false b e = absurd cc

all_joined : {A : Type 0} (P : A → Type 0) (xs ys : List A) → AllByRecursion P xs → AllByRecursion P ys → AllByRecursion P (xs ++ ys)
all_joined P [] ys a b = b
all_joined P (x ∷ xs) ys a b = (a.0, all_joined P xs ys a.1 b)

all_filtered : {A : Type 0} (P : A → Type 0) (p : A → Bool) (xs : List A) → AllByRecursion P xs → AllByRecursion P (filter p xs)
all_filtered P p [] all = tt
all_filtered P p (x ∷ xs) all = filtered_case P x (filter p xs) (p x) all.0 (all_filtered P p xs all.1)
  where
    filtered_case : {A : Type 0} (P : A → Type 0) (x : A) (ys : List A) (b : Bool) → P x → AllByRecursion P ys → AllByRecursion P (cond b (x ∷ ys) ys)
    filtered_case P x ys true here more = (here, more)
    filtered_case P x ys false here more = more

-- each of the elements that pass one test gives b at another
all_passing : {A : Type 0} (p q : A → Bool) (b : Bool) → ((x : A) → p x ≡ true → q x ≡ b) → (xs : List A) → AllByRecursion (λ x. q x ≡ b) (filter p xs)
all_passing p q b gives [] = tt
all_passing p q b gives (x ∷ xs) = passing_case q b x (filter p xs) (p x) (gives x) (all_passing p q b gives xs)
  where
    passing_case : {A : Type 0} (q : A → Bool) (b : Bool) (x : A) (ys : List A) (c : Bool) → (c ≡ true → q x ≡ b) → AllByRecursion (λ x. q x ≡ b) ys → AllByRecursion (λ x. q x ≡ b) (cond c (x ∷ ys) ys)
    passing_case q b x ys true give more = (give refl, more)
    passing_case q b x ys false give more = more

any_filtered : {A : Type 0} (q p : A → Bool) (xs : List A) → list_any q (filter p xs) ≡ true → list_any q xs ≡ true
any_filtered q p [] e = e
any_filtered q p (x ∷ xs) e = any_case q x xs (filter p xs) (p x) (any_filtered q p xs) e
  where
    either : (a b c : Bool) → (b ≡ true → c ≡ true) → (a || b) ≡ true → (a || c) ≡ true
    either true b c more e = refl
    either false b c more e = more e

    any_case : {A : Type 0} (q : A → Bool) (x : A) (xs ys : List A) (b : Bool) → (list_any q ys ≡ true → list_any q xs ≡ true) → list_any q (cond b (x ∷ ys) ys) ≡ true → (q x || list_any q xs) ≡ true
    any_case q x xs ys true more e = either (q x) (list_any q ys) (list_any q xs) more e
    any_case q x xs ys false more e = rw (more e) (or_true (q x))

-- as many give something as there are
given_length : {A B : Type 0} (f : A → Option B) (xs : List A) → length (filter_map f xs) ≡ length (filter (λ x. is_some (f x)) xs)
given_length f [] = refl
given_length f (x ∷ xs) = length_case x (filter (λ x. is_some (f x)) xs) (filter_map f xs) (f x) (given_length f xs)
  where
    length_case : {A B : Type 0} (x : A) (xs : List A) (ys : List B) (o : Option B) → length ys ≡ length xs → length (cons_option o ys) ≡ length (cond (is_some o) (x ∷ xs) xs)
    length_case x xs ys None e = e
    length_case x xs ys (Some y) e = rw e refl

-- ---- symbols without repeats

members : (xs : List Symbol) → AllByRecursion (λ s. list_any (symbol_eq s) xs ≡ true) xs
members [] = tt
members (x ∷ xs) = (
  or_left (symbol_eq x x) (list_any (symbol_eq x) xs) (symbol_refl x),
  all_map (λ s. list_any (symbol_eq s) xs ≡ true) (λ s. (symbol_eq s x || list_any (symbol_eq s) xs) ≡ true) (λ s h. rw h (or_true (symbol_eq s x))) xs (members xs),
)

unlike : (p : Symbol → Bool) (x y : Symbol) (b : Bool) → symbol_eq x y ≡ b → p x ≡ true → p y ≡ false → b ≡ false
unlike p x y false e is other = refl
unlike p x y true e is other =
    let passes : p y ≡ true = subst (λ (z : Symbol). p z ≡ true) (symbol_same x y e) is in
    absurd (cc (passes, other))

unlike_each : (p : Symbol → Bool) (x : Symbol) (ys : List Symbol) → p x ≡ true → AllByRecursion (λ y. p y ≡ false) ys → AllByRecursion (λ y. symbol_eq x y ≡ false) ys
unlike_each p x [] is all = tt
unlike_each p x (y ∷ ys) is all = (unlike p x y (symbol_eq x y) refl is all.0, unlike_each p x ys is all.1)

-- symbols that pass a test and symbols that do not
joined_distinct : (p : Symbol → Bool) (xs ys : List Symbol) → AllByRecursion (λ x. p x ≡ true) xs → AllByRecursion (λ y. p y ≡ false) ys
    → IsDistinct symbol_eq xs → IsDistinct symbol_eq ys → IsDistinct symbol_eq (xs ++ ys)
unfolding IsDistinct
joined_distinct p [] ys pass fail d e = e
joined_distinct p (x ∷ xs) ys pass fail d e =
    (all_joined (λ y. symbol_eq x y ≡ false) xs ys d.0 (unlike_each p x ys pass.0 fail), joined_distinct p xs ys pass.1 fail d.1 e)

filtered_distinct : (p : Symbol → Bool) (xs : List Symbol) → IsDistinct symbol_eq xs → IsDistinct symbol_eq (filter p xs)
unfolding IsDistinct
filtered_distinct p [] d = d
filtered_distinct p (x ∷ xs) d = distinct_case x (filter p xs) (p x) (all_filtered (λ y. symbol_eq x y ≡ false) p xs d.0) (filtered_distinct p xs d.1)
  where
    distinct_case : (x : Symbol) (ys : List Symbol) (b : Bool) → AllByRecursion (λ y. symbol_eq x y ≡ false) ys → IsDistinct symbol_eq ys → IsDistinct symbol_eq (cond b (x ∷ ys) ys)
    distinct_case x ys true all d = (all, d)
    distinct_case x ys false all d = d

-- ---- the names of symbols

abbrev symbol_name : Symbol → Option Name
symbol_name (ByName y) = Some y
symbol_name (Private m n) = None

unlike_names : (y : Name) (ss : List Symbol) → AllByRecursion (λ s. symbol_eq (ByName y) s ≡ false) ss → AllByRecursion (λ z. name_eq y z ≡ false) (filter_map symbol_name ss)
unlike_names y [] all = tt
unlike_names y (ByName z ∷ ss) all = (all.0, unlike_names y ss all.1)
unlike_names y (Private m n ∷ ss) all = unlike_names y ss all.1

names_distinct : (ss : List Symbol) → IsDistinct symbol_eq ss → IsDistinct name_eq (filter_map symbol_name ss)
unfolding IsDistinct
names_distinct [] d = tt
names_distinct (ByName y ∷ ss) d = (unlike_names y ss d.0, names_distinct ss d.1)
names_distinct (Private m n ∷ ss) d = names_distinct ss d.1

name_decides : (a b : Name) → Decides (name_eq a b) (a ≡ b)
name_decides a b = (name_same a b, λ e. subst (λ (z : Name). name_eq a z ≡ true) e (name_refl a))

-- what symbols give has their names
given_names : {A : Type 0} (f : Symbol → Option A) (name : A → Name) → ((s : Symbol) (x : A) → f s ≡ Some x → symbol_name s ≡ Some (name x)) → (ss : List Symbol)
    → map name (filter_map f ss) ≡ filter_map symbol_name (filter (λ s. is_some (f s)) ss)
given_names f name gives [] = refl
given_names f name gives (s ∷ ss) = given_case name s (filter_map f ss) (filter (λ s. is_some (f s)) ss) (f s) (gives s) (given_names f name gives ss)
  where
    given_case : {A : Type 0} (name : A → Name) (s : Symbol) (xs : List A) (ss : List Symbol) (o : Option A) → ((x : A) → o ≡ Some x → symbol_name s ≡ Some (name x)) → map name xs ≡ filter_map symbol_name ss
        → map name (cons_option o xs) ≡ filter_map symbol_name (cond (is_some o) (s ∷ ss) ss)
    given_case name s xs ss None gives more = more
    given_case name s xs ss (Some x) gives more = rw (gives x refl, more) refl

section_names : (rs : List Read) (ss : List Symbol) → map (λ (x : Section). x.name) (filter (λ x. not (is_private x.kind)) (filter_map (section_of rs) ss)) ≡ filter_map symbol_name ss
section_names rs [] = refl
section_names rs (ByName y ∷ ss) = named_case (kept_sd rs y) (section_names rs ss)
  where
    named_case : (o : Option Sight) → map (λ (x : Section). x.name) (filter (λ x. not (is_private x.kind)) (filter_map (section_of rs) ss)) ≡ filter_map symbol_name ss
        → map (λ (x : Section). x.name) (filter (λ x. not (is_private x.kind)) (named_section rs y o ∷ filter_map (section_of rs) ss)) ≡ y ∷ filter_map symbol_name ss
    named_case None more = ap (λ (ns : List Name). y ∷ ns) more
    named_case (Some x) more = ap (λ (ns : List Name). y ∷ ns) more
section_names rs (Private m n ∷ ss) = private_case (sight_at rs m n) (section_names rs ss)
  where
    private_case : (o : Option Sight) → map (λ (x : Section). x.name) (filter (λ x. not (is_private x.kind)) (filter_map (section_of rs) ss)) ≡ filter_map symbol_name ss
        → map (λ (x : Section). x.name) (filter (λ x. not (is_private x.kind)) (cons_option (option_map (private_section rs (Private m n)) o) (filter_map (section_of rs) ss))) ≡ filter_map symbol_name ss
    private_case None more = more
    private_case (Some x) more = more

-- ---- no name of a section is that of a label

one_kind : (kind : ItemKind) (a b : Bool) → ((is_sd kind || is_cm kind) && a) ≡ true → (is_label kind && b) ≡ true → ⊥
one_kind Sd a b e f = absurd cc
one_kind Pc a b e f = absurd cc
one_kind Cm a b e f = absurd cc
one_kind LabelItem a b e f = absurd cc
one_kind Er a b e f = absurd cc
one_kind Wx a b e f = absurd cc
one_kind RegisterItem a b e f = absurd cc

-- one item more of this name: a says that a section came before, and b that a label did
none_step : (a b s l : Bool) → (s ≡ true → l ≡ true → ⊥) → (s && b || l && (b || a)) ≡ false → (a && b) ≡ false → ((a || (s && true || false)) && (b || (l && true || false))) ≡ false
none_step true true s l kinds free before = absurd cc
none_step true false s false kinds free before = refl
none_step true false false true kinds free before = absurd cc
none_step true false true true kinds free before = absurd cc
none_step false true false l kinds free before = refl
none_step false true true l kinds free before = absurd cc
none_step false false false l kinds free before = refl
none_step false false true false kinds free before = refl
none_step false false true true kinds free before = absurd (kinds refl refl)

abbrev section_here : List Read → Name → Sight → Bool
section_here rs y z = is_kept_section rs z && name_eq y z.item.name

abbrev label_here : List Read → Name → Sight → Bool
label_here rs y z = is_kept_label rs z && name_eq y z.item.name

abbrev IsApart : List Read → Name → List Sight → Type 0
IsApart rs y xs = (list_any (section_here rs y) xs && list_any (label_here rs y) xs) ≡ false

other_step : (a b s l : Bool) → (a && b) ≡ false → ((a || (s && false || false)) && (b || (l && false || false))) ≡ false
other_step true true s l before = absurd cc
other_step true false s true before = refl
other_step true false s false before = refl
other_step false b true l before = refl
other_step false b false l before = refl

same_step : (rs : List Read) (before : List Sight) (x : Sight) → clashes rs before x ≡ false → IsApart rs x.item.name before
    → ((list_any (section_here rs x.item.name) before || (is_kept_section rs x && true || false)) && (list_any (label_here rs x.item.name) before || (is_kept_label rs x && true || false))) ≡ false
same_step rs before x free apart =
    let y : Name = x.item.name in
    let sections_before : Bool = list_any (section_here rs y) before in
    let labels_before : Bool = list_any (label_here rs y) before in
    let either : list_any (λ z. (is_kept_section rs z || is_kept_label rs z) && name_eq y z.item.name) before ≡ (labels_before || sections_before) =
    any_or (is_kept_section rs) (is_kept_label rs) (λ z. name_eq y z.item.name) before in
    none_step sections_before labels_before (is_kept_section rs x) (is_kept_label rs x)
    (λ e f. one_kind (kind_of x.item) (is_some (kept_as rs x (kind_of x.item))) (is_some (kept_in rs x.of_module x.item.owner)) e f)
    (ap (λ (b : Bool). is_kept_section rs x && labels_before || is_kept_label rs x && b) (sym either) ∙ free)
    apart

here_step : (rs : List Read) (before : List Sight) (x : Sight) (y : Name) (b : Bool) → name_eq y x.item.name ≡ b → clashes rs before x ≡ false → IsApart rs y before
    → ((list_any (section_here rs y) before || (is_kept_section rs x && b || false)) && (list_any (label_here rs y) before || (is_kept_label rs x && b || false))) ≡ false
here_step rs before x y true e free apart =
    let is : y ≡ x.item.name = name_same y x.item.name e in
    subst (λ (n : Name). ((list_any (section_here rs n) before || (is_kept_section rs x && true || false)) && (list_any (label_here rs n) before || (is_kept_label rs x && true || false))) ≡ false)
    (sym is) (same_step rs before x free (subst (λ (n : Name). IsApart rs n before) is apart))
here_step rs before x y false e free apart =
    other_step (list_any (section_here rs y) before) (list_any (label_here rs y) before) (is_kept_section rs x) (is_kept_label rs x) apart

none_here : (y : Name) (b : Bool) (o : Option Name) → cond b (Some y) o ≡ None → (b ≡ false) × (o ≡ None)
none_here y true o e = absurd cc
none_here y false o e = (refl, e)

none_both : (rs : List Read) (y : Name) (before xs : List Sight) → first_clash rs before xs ≡ None → IsApart rs y before → IsApart rs y (before ++ xs)
none_both rs y before [] none apart = subst (IsApart rs y) (sym (append-nil before)) apart
none_both rs y before (x ∷ xs) none apart =
    let free = none_here x.item.name (clashes rs before x) (first_clash rs (before ++ x ∷ []) xs) none in
    let next : IsApart rs y (before ++ x ∷ []) =
    rw (list_any-append (section_here rs y) before (x ∷ []), list_any-append (label_here rs y) before (x ∷ [])) (here_step rs before x y (name_eq y x.item.name) refl free.0 apart) in
    subst (IsApart rs y) (append_assoc before (x ∷ []) xs) (none_both rs y (before ++ x ∷ []) xs free.1 next)

sections_and_labels : (rs : List Read) (y : Name) → double_definition rs ≡ None → IsApart rs y (sights rs)
unfolding double_definition
sections_and_labels rs y none = none_both rs y [] (sights rs) none refl

section_there : (rs : List Read) (y : Name) → list_any (symbol_eq (ByName y)) (section_symbols rs) ≡ list_any (section_here rs y) (sights rs)
section_there rs y = any_firsts (ByName y) (filter_map section_symbol (sights rs)) ∙ any_section y (sights rs) ∙ any_kept rs (sights rs) [] y (sym (append-nil (sights rs)))

-- ---- no symbol is two things

abbrev is_section_of : List Read → Symbol → Bool
is_section_of rs s = list_any (symbol_eq s) (section_symbols rs)

abbrev has_label : List Read → Symbol → Bool
has_label rs s = is_some (label_of rs s)

abbrev is_unknown : List Read → Symbol → Bool
is_unknown rs s = is_some (unknown_of rs s)

kept_here : (rs : List Read) (y : Name) (z : Sight) (l : Label) → is_label_named y z ≡ true → label_at rs z ≡ Some l → label_here rs y z ≡ true
kept_here rs y z l named at_z =
    let kind = both_true (is_label (kind_of z.item)) (name_eq z.item.name y) named in
    let kept : is_some (kept_in rs z.of_module z.item.owner) ≡ true = sym (some_map _ (kept_in rs z.of_module z.item.owner)) ∙ ap is_some at_z in
    let name : name_eq y z.item.name ≡ true = name_sym y z.item.name ∙ kind.1 in
    rw (kind.0, kept, name) refl

some_true : (o : Option Label) → is_some o ≡ true → option_map_or (λ (l : Label). true) o false ≡ true
some_true None e = e
some_true (Some l) e = refl

label_kept : (rs : List Read) (y : Name) → has_label rs (ByName y) ≡ true → list_any (label_here rs y) (sights rs) ≡ true
label_kept rs y e =
    head_any (label_at rs) (is_label_named y) (label_here rs y) (λ (l : Label). true) (λ z l named at_z passes. kept_here rs y z l named at_z) (sights rs) (some_true (label_of rs (ByName y)) e)

first_false : (a b : Bool) → (a && b) ≡ false → b ≡ true → a ≡ false
first_false true true e f = absurd cc
first_false true false e f = absurd cc
first_false false b e f = refl

labels_apart : (rs : List Read) → double_definition rs ≡ None → (s : Symbol) → has_label rs s ≡ true → is_section_of rs s ≡ false
labels_apart rs none (ByName y) e =
    section_there rs y ∙ first_false (list_any (section_here rs y) (sights rs)) (list_any (label_here rs y) (sights rs)) (sections_and_labels rs y none) (label_kept rs y e)
labels_apart rs none (Private m n) e = absurd cc

undefined_case : (a b : Bool) (u : Unknown) → is_some (cond (a && not b) (Some u) None) ≡ true → b ≡ false
undefined_case true true u e = absurd cc
undefined_case true false u e = refl
undefined_case false b u e = absurd cc

both_false : (a b : Bool) → (a || b) ≡ false → (a ≡ false) × (b ≡ false)
both_false true b e = absurd cc
both_false false b e = (refl, e)

no_label : (b c : Bool) → (b ≡ true → c ≡ true) → c ≡ false → b ≡ false
no_label true c gives e = absurd (cc (gives refl, e))
no_label false c gives e = refl

unknowns_apart : (rs : List Read) (s : Symbol) → is_unknown rs s ≡ true → (is_section_of rs s ≡ false) × (has_label rs s ≡ false)
unfolding content_of
unknowns_apart rs (ByName y) e =
    let undefined : is_some (definition rs y) ≡ false = undefined_case (is_referenced rs y) (is_some (definition rs y)) (record { name = y; weak = is_weak rs y }) e in
    let neither = both_false (has (content_of rs).sections y) (has (content_of rs).labels y) (defined_is rs y ∙ undefined) in
    let none : list_any (label_here rs y) (sights rs) ≡ false = sym (labels_any rs y) ∙ sym (labels_has rs y) ∙ neither.1 in
    (neither.0, no_label (has_label rs (ByName y)) (list_any (label_here rs y) (sights rs)) (label_kept rs y) none)
unknowns_apart rs (Private m n) e = absurd cc

-- ---- all symbols of the program

abbrev all_symbols : List Read → List Symbol
all_symbols rs = section_symbols rs ++ (filter (has_label rs) (appearance rs) ++ filter (is_unknown rs) (appearance rs))

appearance_distinct : (rs : List Read) → IsDistinct symbol_eq (appearance rs)
unfolding appearance
appearance_distinct rs = firsts_distinct (flat_map (seen_in rs) (enumerate_from 0 rs))

symbols_distinct : (rs : List Read) → double_definition rs ≡ None → IsDistinct symbol_eq (all_symbols rs)
symbols_distinct rs none =
    let all : List Symbol = appearance rs in
    joined_distinct (is_section_of rs) (section_symbols rs) (filter (has_label rs) all ++ filter (is_unknown rs) all) (members (section_symbols rs))
    (all_joined (λ s. is_section_of rs s ≡ false) (filter (has_label rs) all) (filter (is_unknown rs) all)
    (all_passing (has_label rs) (is_section_of rs) false (labels_apart rs none) all)
    (all_passing (is_unknown rs) (is_section_of rs) false (λ s e. (unknowns_apart rs s e).0) all))
    (firsts_distinct (filter_map section_symbol (sights rs)))
    (joined_distinct (has_label rs) (filter (has_label rs) all) (filter (is_unknown rs) all)
    (all_passing (has_label rs) (has_label rs) true (λ s e. e) all)
    (all_passing (is_unknown rs) (has_label rs) false (λ s e. (unknowns_apart rs s e).1) all)
    (filtered_distinct (has_label rs) all (appearance_distinct rs)) (filtered_distinct (is_unknown rs) all (appearance_distinct rs)))

in_either : (a b c : Bool) → (a ≡ true → c ≡ true) → (b ≡ true → c ≡ true) → (a || b) ≡ true → c ≡ true
in_either true b c f g e = f refl
in_either false b c f g e = g e

symbols_appear : (rs : List Read) (s : Symbol) → list_any (symbol_eq s) (all_symbols rs) ≡ true → list_any (symbol_eq s) (appearance rs) ≡ true
symbols_appear rs s e =
    let all : List Symbol = appearance rs in
    let labelled : List Symbol = filter (has_label rs) all in
    let unknown : List Symbol = filter (is_unknown rs) all in
    in_either (list_any (symbol_eq s) (section_symbols rs)) (list_any (symbol_eq s) (labelled ++ unknown)) (list_any (symbol_eq s) all)
    (section_appears rs s)
    (λ f. in_either (list_any (symbol_eq s) labelled) (list_any (symbol_eq s) unknown) (list_any (symbol_eq s) all)
    (any_filtered (symbol_eq s) (has_label rs) all) (any_filtered (symbol_eq s) (is_unknown rs) all) (sym (list_any-append (symbol_eq s) labelled unknown) ∙ f))
    (sym (list_any-append (symbol_eq s) (section_symbols rs) (labelled ++ unknown)) ∙ e)

symbols_few : (rs : List Read) → double_definition rs ≡ None → length (all_symbols rs) ≤ length (appearance rs)
symbols_few rs none = length-le_from_is_member symbols_equal (all_symbols rs) (appearance rs) (symbols_distinct rs none) (symbols_appear rs)

-- a program has few enough symbols that a member can number them
pub few_symbols : (rs : List Read) → IsMerged rs → length (sections rs) + length (labels rs) + length (unresolved rs) + length (registers rs) ≤ 32511
unfolding unresolved
few_symbols rs m =
    let all : List Symbol = appearance rs in
    let labelled : List Symbol = filter (has_label rs) all in
    let unknown : List Symbol = filter (is_unknown rs) all in
    omega (
      arith,
      few rs m,
      symbols_few rs (no_clash rs m.faultless),
      filter_map_short (section_of rs) (section_symbols rs),
      given_length (label_of rs) all,
      given_length (unknown_of rs) all,
      length-append (section_symbols rs) (labelled ++ unknown),
      length-append labelled unknown,
    )

-- ---- names of the program

label_gives : (rs : List Read) (s : Symbol) (l : Label) → label_of rs s ≡ Some l → symbol_name s ≡ Some l.name
label_gives rs (ByName y) l e = ap Some (head_name rs y (sights rs) l e)
label_gives rs (Private m n) l e = absurd cc

unknown_gives : (rs : List Read) (s : Symbol) (u : Unknown) → unknown_of rs s ≡ Some u → symbol_name s ≡ Some u.name
unknown_gives rs (ByName y) u e = gives_case (is_referenced rs y && not (is_some (definition rs y))) (record { name = y; weak = is_weak rs y }) u e
  where
    gives_case : (b : Bool) (r u : Unknown) → cond b (Some r) None ≡ Some u → Some r.name ≡ Some u.name
    gives_case true r u e = ap (option_map (λ (x : Unknown). x.name)) e
    gives_case false r u e = absurd cc
unknown_gives rs (Private m n) u e = absurd cc

names_are : (rs : List Read) → names_of (program_of rs) ≡ filter_map symbol_name (all_symbols rs)
unfolding program_of unresolved
names_are rs =
    let all : List Symbol = appearance rs in
    let labelled : List Symbol = filter (has_label rs) all in
    let unknown : List Symbol = filter (is_unknown rs) all in
    let of_labels : map (λ (x : Label). x.name) (labels rs) ≡ filter_map symbol_name labelled = given_names (label_of rs) (λ (x : Label). x.name) (label_gives rs) all in
    let of_unknowns : map (λ (x : Unknown). x.name) (unresolved rs) ≡ filter_map symbol_name unknown = given_names (unknown_of rs) (λ (x : Unknown). x.name) (unknown_gives rs) all in
    append_assoc (map (λ (x : Section). x.name) (filter (λ x. not (is_private x.kind)) (sections rs))) (map (λ (x : Label). x.name) (labels rs)) (map (λ (x : Unknown). x.name) (unresolved rs))
    ∙ ap₂ (λ (a b : List Name). a ++ b) (section_names rs (section_symbols rs)) (ap₂ (λ (a b : List Name). a ++ b) of_labels of_unknowns)
    ∙ ap (λ (b : List Name). filter_map symbol_name (section_symbols rs) ++ b) (sym (filter_map-append symbol_name labelled unknown))
    ∙ sym (filter_map-append symbol_name (section_symbols rs) (labelled ++ unknown))

-- no name of a program means two things
pub names_apart : (rs : List Read) → IsMerged rs → AllPairs (λ x y. x ≢ y) (names_of (program_of rs))
names_apart rs m =
    subst (AllPairs (λ (x y : Name). x ≢ y)) (sym (names_are rs))
    (AllPairs-from_IsDistinct name_decides (filter_map symbol_name (all_symbols rs)) (names_distinct (all_symbols rs) (symbols_distinct rs (no_clash rs m.faultless))))

-- ---- registers

register_names : (rs : List Read) (ns : List Name) → map (λ (r : Register). r.name) (map (register_of rs) ns) ≡ ns
register_names rs [] = refl
register_names rs (n ∷ ns) = ap (λ (xs : List Name). n ∷ xs) (register_names rs ns)

symbol_names : (ns : List Name) → filter_map symbol_name (map ByName ns) ≡ ns
symbol_names [] = refl
symbol_names (n ∷ ns) = ap (λ (xs : List Name). n ∷ xs) (symbol_names ns)

-- no two registers of a program have the same name
pub registers_apart : (rs : List Read) → IsMerged rs → AllPairs (λ x y. x ≢ y) (map (λ r. r.name) (registers rs))
registers_apart rs m =
    let ns : List Name = firsts name_eq (map (λ (x : Sight). x.item.name) (register_items rs)) in
    let symbols : IsDistinct symbol_eq (map ByName ns) = subst (IsDistinct symbol_eq) (register_symbols rs) (firsts_distinct (filter_map (λ (x : Sight). named_if is_register x.item) (sights rs))) in
    let names : IsDistinct name_eq ns = subst (IsDistinct name_eq) (symbol_names ns) (names_distinct (map ByName ns) symbols) in
    subst (AllPairs (λ (x y : Name). x ≢ y)) (sym (register_names rs ns)) (AllPairs-from_IsDistinct name_decides ns names)
