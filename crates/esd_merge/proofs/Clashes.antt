-- Names with two meanings.
use Rattle.std.proofs.Common.{◌≡◌, ℕ, suc, ◌+◌, ◌<◌, ◌≤◌, Bool, true, false, ◌&&◌, ◌||◌, ◌==◌, cond, List, [], ◌∷◌, ◌++◌, length, fold, slice_get, Option, Some, None, Result, Ok, Err, is_some, refl, sym, ap, ◌∙◌, arith, append-nil, append_assoc, filter_map}
use Rattle.std.specs.List.{find, list_any, AllByRecursion, cons_option}
use Rattle.std.specs.Option.{option_or}
use Rattle.std.proofs.lemmas.List.Folds.{find-append}
use Rattle.std.proofs.lemmas.List.Sums.{fold-append}
use Rattle.std.proofs.lemmas.List.Elements.{filter_map-append}
use Rattle.std.proofs.lemmas.Bool.Decides.{nat_tests}
use Rattle.le_bytes.specs.declared.name.Name.{Name}
use Rattle.le_bytes.specs.Names.{name_eq}
use Rattle.sym_mod.specs.declared.module.Item.{Item}
use Rattle.sym_mod.specs.declared.module.ItemKind.{ItemKind}
use Rattle.sym_mod.specs.declared.module.ItemKind.TheVariants.{Sd, Pc, Cm, Label, Er, Wx, Register}
use Rattle.sym_mod.specs.declared.module.SymModule.{SymModule}
use Rattle.sym_mod.specs.Kinds.{kind_of, is_sd, is_cm, is_label}
use Rattle.linking_model.specs.Names.{with_first, firsts}
use Rattle.linking_model.specs.Kept.{Read, Sight, Symbol, ByName, symbol_eq, sights_in, sights_from, sights, is_at, is_sd_named, kept_sd, kept_as, section_symbol_for, section_symbol, kept_in}
use Rattle.linking_model.specs.Merged.{is_kept_section, is_kept_label, has_name_of, clashes, first_clash, double_definition}
use Rattle.esd_index.specs.Marked.{with_some}
use Rattle.esd_index.specs.Contents.{Contents}
use Rattle.esd_index.specs.Steps.{flag_at, kept_label_by, clashes_over, with_sight, with_sights}
use Rattle.esd_lists.specs.Indexed.{kept_label}
use Rattle.esd_lists.proofs.Firsts.{name_same, name_sym, any_firsts}
use Rattle.esd_lists.proofs.Sights.{any_find, find_passes, find_among, seen_at}
use Rattle.esd_lists.proofs.Unknowns.{any_or, any_label}
use Rattle.esd_merge.specs.Added.{with_module}
use Rattle.esd_merge.proofs.Grown.{sights_with}
use Rattle.esd_merge.proofs.Kept.{kept_as_old, kept_in_old, sd_named_itself}

-- ---- tests

or_true : (b : Bool) → (b || true) ≡ true
or_true true = refl
or_true false = refl

or_false : (b : Bool) → (b || false) ≡ b
or_false true = refl
or_false false = refl

pub any_same : {A : Type 0} (p q : A → Bool) (xs : List A) → AllByRecursion (λ x. p x ≡ q x) xs → list_any p xs ≡ list_any q xs
any_same p q [] all = refl
any_same p q (x ∷ xs) all = rw (all.0, any_same p q xs all.1) refl

abbrev is_named_section : ItemKind → Bool
is_named_section k = is_sd k || is_cm k

section_among : (y : Name) (x : Sight) (xs : List Sight) (kind : ItemKind)
    → list_any (symbol_eq (ByName y)) (filter_map section_symbol xs) ≡ list_any (λ z. is_named_section (kind_of z.item) && name_eq y z.item.name) xs
    → list_any (symbol_eq (ByName y)) (cons_option (section_symbol_for x kind) (filter_map section_symbol xs))
    ≡ (is_named_section kind && name_eq y x.item.name || list_any (λ z. is_named_section (kind_of z.item) && name_eq y z.item.name) xs)
section_among y x xs Sd more = rw more refl
section_among y x xs Pc more = more
section_among y x xs Cm more = rw more refl
section_among y x xs Label more = more
section_among y x xs Er more = more
section_among y x xs Wx more = more
section_among y x xs Register more = more

pub any_section : (y : Name) (xs : List Sight) → list_any (symbol_eq (ByName y)) (filter_map section_symbol xs) ≡ list_any (λ z. is_named_section (kind_of z.item) && name_eq y z.item.name) xs
any_section y [] = refl
any_section y (x ∷ xs) = section_among y x xs (kind_of x.item) (any_section y xs)

-- ---- a name of a section item has a kept section

abbrev kept_named : List Read → Name → Sight → Bool
kept_named rs y z = is_kept_section rs z && name_eq y z.item.name

abbrev section_named : Name → Sight → Bool
section_named y z = is_named_section (kind_of z.item) && name_eq y z.item.name

itself_at : (x : Sight) → is_at x.of_module x.number x ≡ true
itself_at x = same x.of_module x.number
  where
    same : (a b : ℕ) → (a == a && b == b) ≡ true
    same a b = grind (arith, nat_tests)

both_true : (a b : Bool) → (a && b) ≡ true → (a ≡ true) × (b ≡ true)
both_true true b e = (refl, e)
both_true false b e = absurd cc

sd_is : (kind : ItemKind) → is_sd kind ≡ true → kind ≡ Sd
sd_is Sd e = refl
sd_is Pc e = absurd cc
sd_is Cm e = absurd cc
sd_is Label e = absurd cc
sd_is Er e = absurd cc
sd_is Wx e = absurd cc
sd_is Register e = absurd cc

-- the first SD of a name is kept
first_is_kept : (rs : List Read) (before rest : List Sight) (y : Name) (f : Sight) → sights rs ≡ before ++ rest → find (is_sd_named y) before ≡ Some f → kept_named rs y f ≡ true
first_is_kept rs before rest y f split found =
    let passes = both_true (is_sd (kind_of f.item)) (name_eq f.item.name y) (find_passes (is_sd_named y) before f found) in
    let kind : kind_of f.item ≡ Sd = sd_is (kind_of f.item) passes.0 in
    let name : f.item.name ≡ y = name_same f.item.name y passes.1 in
    let whole : find (is_sd_named y) (sights rs) ≡ Some f = ap (find (is_sd_named y)) split ∙ find-append (is_sd_named y) before rest ∙ ap (λ (o : Option Sight). option_or o (find (is_sd_named y) rest)) found in
    let first : kept_sd rs f.item.name ≡ Some f = ap (λ (n : Name). find (is_sd_named n) (sights rs)) name ∙ whole in
    let kept : is_some (kept_as rs f Sd) ≡ true = rw (first, itself_at f) refl in
    let back : name_eq y f.item.name ≡ true = name_sym y f.item.name ∙ passes.1 in
    rw (kind, kept, back) refl

any_from : {A : Type 0} (q : A → Bool) (xs : List A) (f : A) (p : A → Bool) → find p xs ≡ Some f → q f ≡ true → list_any q xs ≡ true
any_from q xs f p found e = find_among p q xs f found e

name_has_first : (rs : List Read) (before rest : List Sight) (y : Name) (o : Option Sight) → sights rs ≡ before ++ rest → find (is_sd_named y) before ≡ o → is_some o ≡ true → list_any (kept_named rs y) before ≡ true
name_has_first rs before rest y None split found e = absurd cc
name_has_first rs before rest y (Some f) split found e = find_among (is_sd_named y) (kept_named rs y) before f found (first_is_kept rs before rest y f split found)

-- a section item has the name: it is kept, or the SD before it
section_kept : (rs : List Read) (before rest : List Sight) (y : Name) (z : Sight) (p : Sight → Bool) (kind : ItemKind) → sights rs ≡ before ++ rest → kind_of z.item ≡ kind
    → find p before ≡ Some z → is_named_section kind ≡ true → name_eq y z.item.name ≡ true → list_any (kept_named rs y) before ≡ true
section_kept rs before rest y z p Sd split kind found section name =
    let sd : is_sd_named y z ≡ true = rw (kind, name_sym z.item.name y, name) refl in
    let any : list_any (is_sd_named y) before ≡ true = find_among p (is_sd_named y) before z found sd in
    name_has_first rs before rest y (find (is_sd_named y) before) split refl (sym (any_find (is_sd_named y) before) ∙ any)
section_kept rs before rest y z p Cm split kind found section name =
    let kept : kept_named rs y z ≡ true = rw (kind, name) refl in
    find_among p (kept_named rs y) before z found kept
section_kept rs before rest y z p Pc split kind found section name = absurd cc
section_kept rs before rest y z p Label split kind found section name = absurd cc
section_kept rs before rest y z p Er split kind found section name = absurd cc
section_kept rs before rest y z p Wx split kind found section name = absurd cc
section_kept rs before rest y z p Register split kind found section name = absurd cc

some_section : (rs : List Read) (before rest : List Sight) (y : Name) (o : Option Sight) → sights rs ≡ before ++ rest → find (section_named y) before ≡ o → is_some o ≡ true → list_any (kept_named rs y) before ≡ true
some_section rs before rest y None split found e = absurd cc
some_section rs before rest y (Some z) split found e =
    let both = both_true (is_named_section (kind_of z.item)) (name_eq y z.item.name) (find_passes (section_named y) before z found) in
    section_kept rs before rest y z (section_named y) (kind_of z.item) split refl found both.0 both.1

kept_passes : (a b c : Bool) → ((a && b) && c) ≡ true → (a && c) ≡ true
kept_passes true true c e = e
kept_passes true false c e = absurd cc
kept_passes false b c e = absurd cc

some_kept : (rs : List Read) (before : List Sight) (y : Name) (o : Option Sight) → find (kept_named rs y) before ≡ o → is_some o ≡ true → list_any (section_named y) before ≡ true
some_kept rs before y None found e = absurd cc
some_kept rs before y (Some z) found e =
    find_among (kept_named rs y) (section_named y) before z found
    (kept_passes (is_named_section (kind_of z.item)) (is_some (kept_as rs z (kind_of z.item))) (name_eq y z.item.name) (find_passes (kept_named rs y) before z found))

one_answer : (a b : Bool) → (a ≡ true → b ≡ true) → (b ≡ true → a ≡ true) → a ≡ b
one_answer true true f g = refl
one_answer false false f g = refl
one_answer true false f g = sym (f refl)
one_answer false true f g = g refl

pub any_kept : (rs : List Read) (before rest : List Sight) (y : Name) → sights rs ≡ before ++ rest → list_any (section_named y) before ≡ list_any (kept_named rs y) before
any_kept rs before rest y split =
    one_answer (list_any (section_named y) before) (list_any (kept_named rs y) before)
    (λ e. some_section rs before rest y (find (section_named y) before) split refl (sym (any_find (section_named y) before) ∙ e))
    (λ e. some_kept rs before y (find (kept_named rs y) before) refl (sym (any_find (kept_named rs y) before) ∙ e))

-- ---- the first clash, found by the index

-- the marks say what is kept of an item, and of its owner where it is a label
abbrev pub IsMarked : List Read → List Bool → Sight → Type 0
IsMarked rs flags x =
    (is_some (kept_as rs x (kind_of x.item)) ≡ flag_at flags x.number) × (is_some (kept_in rs x.of_module x.item.owner) ≡ flag_at flags x.item.owner)

clash_here : (rs : List Read) (flags : List Bool) (c : Contents) (before rest : List Sight) (x : Sight) → sights rs ≡ before ++ x ∷ rest → IsMarked rs flags x
    → c.labels ≡ firsts symbol_eq (filter_map (kept_label rs) before) → c.sections ≡ firsts symbol_eq (filter_map section_symbol before)
    → clashes_over flags c x ≡ clashes rs before x
clash_here rs flags c before rest x split marked labels sections =
    let y : Name = x.item.name in
    let of_labels : list_any (symbol_eq (ByName y)) c.labels ≡ list_any (λ z. is_kept_label rs z && name_eq y z.item.name) before =
    rw labels (any_firsts (ByName y) (filter_map (kept_label rs) before) ∙ any_label rs y before) in
    let of_sections : list_any (symbol_eq (ByName y)) c.sections ≡ list_any (kept_named rs y) before =
    rw sections (any_firsts (ByName y) (filter_map section_symbol before) ∙ any_section y before ∙ any_kept rs before (x ∷ rest) y split) in
    let either : list_any (λ z. (is_kept_section rs z || is_kept_label rs z) && name_eq y z.item.name) before ≡ (list_any (λ z. is_kept_label rs z && name_eq y z.item.name) before || list_any (kept_named rs y) before) =
    any_or (is_kept_section rs) (is_kept_label rs) (λ z. name_eq y z.item.name) before in
    rw (of_labels, of_sections, either, marked.0, marked.1) refl

-- the content with the items, or the name of the first that clashes
abbrev pub outcome : Option Name → Contents → Result Contents Name
outcome None d = Ok d
outcome (Some y) d = Err y

clash_chosen : (flags : List Bool) (c d : Contents) (x : Sight) (xs : List Sight) (o : Option Name) (b : Bool) → with_sights flags d xs ≡ outcome o (fold (with_sight flags) d xs)
    → cond b (Err x.item.name) (with_sights flags d xs) ≡ outcome (cond b (Some x.item.name) o) (fold (with_sight flags) d xs)
clash_chosen flags c d x xs o true more = refl
clash_chosen flags c d x xs o false more = more

some_at_end : {A : Type 0} (f : A → Option Symbol) (xs : List A) (x : A) (o : Option Symbol) → f x ≡ o → with_some (firsts symbol_eq (filter_map f xs)) o ≡ firsts symbol_eq (filter_map f xs ++ cons_option o [])
some_at_end f xs x None e = ap (firsts symbol_eq) (sym (append-nil (filter_map f xs)))
some_at_end f xs x (Some y) e = sym (fold-append (with_first symbol_eq) [] (filter_map f xs) (y ∷ []))

pub with_some_end : {A : Type 0} (f : A → Option Symbol) (xs : List A) (x : A) → with_some (firsts symbol_eq (filter_map f xs)) (f x) ≡ firsts symbol_eq (filter_map f (xs ++ x ∷ []))
with_some_end f xs x = some_at_end f xs x (f x) refl ∙ ap (firsts symbol_eq) (sym (filter_map-append f xs (x ∷ [])))

pub clash_is : (rs : List Read) (flags : List Bool) (c : Contents) (before xs : List Sight) → sights rs ≡ before ++ xs → AllByRecursion (IsMarked rs flags) xs
    → c.labels ≡ firsts symbol_eq (filter_map (kept_label rs) before) → c.sections ≡ firsts symbol_eq (filter_map section_symbol before)
    → with_sights flags c xs ≡ outcome (first_clash rs before xs) (fold (with_sight flags) c xs)
unfolding with_sights with_sight
clash_is rs flags c before [] split marked labels sections = refl
clash_is rs flags c before (x ∷ xs) split marked labels sections =
    let here : clashes_over flags c x ≡ clashes rs before x = clash_here rs flags c before xs x split marked.0 labels sections in
    let label : kept_label_by flags x ≡ kept_label rs x = rw (marked.0.1) refl in
    let next_labels : with_some c.labels (kept_label_by flags x) ≡ firsts symbol_eq (filter_map (kept_label rs) (before ++ x ∷ [])) = rw (labels, label) (with_some_end (kept_label rs) before x) in
    let next_sections : with_some c.sections (section_symbol x) ≡ firsts symbol_eq (filter_map section_symbol (before ++ x ∷ [])) = rw sections (with_some_end section_symbol before x) in
    let on : sights rs ≡ (before ++ x ∷ []) ++ xs = split ∙ sym (append_assoc before (x ∷ []) xs) in
    let more = clash_is rs flags (with_sight flags c x) (before ++ x ∷ []) xs on marked.1 next_labels next_sections in
    rw here (clash_chosen flags c (with_sight flags c x) x xs (first_clash rs (before ++ x ∷ []) xs) (clashes rs before x) more)

-- ---- the modules that were read before

pub first_clash-append : (rs : List Read) (before xs ys : List Sight) → first_clash rs before (xs ++ ys) ≡ option_or (first_clash rs before xs) (first_clash rs (before ++ xs) ys)
first_clash-append rs before [] ys = rw (append-nil before) refl
first_clash-append rs before (x ∷ xs) ys =
    let on : (before ++ x ∷ []) ++ xs ≡ before ++ x ∷ xs = append_assoc before (x ∷ []) xs in
    let more : first_clash rs (before ++ x ∷ []) (xs ++ ys) ≡ option_or (first_clash rs (before ++ x ∷ []) xs) (first_clash rs (before ++ x ∷ xs) ys) =
    first_clash-append rs (before ++ x ∷ []) xs ys ∙ ap (λ (zs : List Sight). option_or (first_clash rs (before ++ x ∷ []) xs) (first_clash rs zs ys)) on in
    chosen (Some x.item.name) (first_clash rs (before ++ x ∷ []) (xs ++ ys)) (first_clash rs (before ++ x ∷ []) xs) (first_clash rs (before ++ x ∷ xs) ys) (clashes rs before x) x.item.name refl more
  where
    chosen : (f o p q : Option Name) (b : Bool) (n : Name) → f ≡ Some n → o ≡ option_or p q → cond b f o ≡ option_or (cond b f p) q
    chosen f o p q true n e more = rw e refl
    chosen f o p q false n e more = more

-- both lists of modules keep the same of an item
abbrev IsSame : List Read → List Read → Sight → Type 0
IsSame new old x = (is_kept_section new x ≡ is_kept_section old x) × (is_kept_label new x ≡ is_kept_label old x)

all_end : {A : Type 0} (P : A → Type 0) (xs : List A) (x : A) → AllByRecursion P xs → P x → AllByRecursion P (xs ++ x ∷ [])
all_end P [] x all here = (here, tt)
all_end P (y ∷ xs) x all here = (all.0, all_end P xs x all.1 here)

pub all_map : {A : Type 0} (P Q : A → Type 0) → ((x : A) → P x → Q x) → (xs : List A) → AllByRecursion P xs → AllByRecursion Q xs
all_map P Q f [] all = tt
all_map P Q f (x ∷ xs) all = (f x all.0, all_map P Q f xs all.1)

pub all_both : {A : Type 0} (P Q R : A → Type 0) → ((x : A) → P x → Q x → R x) → (xs : List A) → AllByRecursion P xs → AllByRecursion Q xs → AllByRecursion R xs
all_both P Q R f [] a b = tt
all_both P Q R f (x ∷ xs) a b = (f x a.0 b.0, all_both P Q R f xs a.1 b.1)

clashes_same : (new old : List Read) (before : List Sight) (x : Sight) → AllByRecursion (IsSame new old) before → IsSame new old x → clashes new before x ≡ clashes old before x
clashes_same new old before x all here =
    let labels : list_any (λ y. is_kept_label new y && has_name_of x y) before ≡ list_any (λ y. is_kept_label old y && has_name_of x y) before =
    any_same (λ y. is_kept_label new y && has_name_of x y) (λ y. is_kept_label old y && has_name_of x y) before
    (all_map (IsSame new old) (λ y. (is_kept_label new y && has_name_of x y) ≡ (is_kept_label old y && has_name_of x y)) (λ y h. ap (λ (b : Bool). b && has_name_of x y) h.1) before all) in
    let either : list_any (λ y. (is_kept_section new y || is_kept_label new y) && has_name_of x y) before ≡ list_any (λ y. (is_kept_section old y || is_kept_label old y) && has_name_of x y) before =
    any_same (λ y. (is_kept_section new y || is_kept_label new y) && has_name_of x y) (λ y. (is_kept_section old y || is_kept_label old y) && has_name_of x y) before
    (all_map (IsSame new old) (λ y. ((is_kept_section new y || is_kept_label new y) && has_name_of x y) ≡ ((is_kept_section old y || is_kept_label old y) && has_name_of x y)) (λ y h. rw (h.0, h.1) refl) before all) in
    rw (labels, either, here.0, here.1) refl

first_clash_same : (new old : List Read) (before xs : List Sight) → AllByRecursion (IsSame new old) before → AllByRecursion (IsSame new old) xs → first_clash new before xs ≡ first_clash old before xs
first_clash_same new old before [] a b = refl
first_clash_same new old before (x ∷ xs) a b =
    rw (clashes_same new old before x a b.0, first_clash_same new old (before ++ x ∷ []) xs (all_end (IsSame new old) before x a b.0) b.1) refl

within_in : (m s k n : ℕ) (items : List Item) → m < n → AllByRecursion (λ (x : Sight). x.of_module < n) (sights_in m s k items)
within_in m s k n [] low = tt
within_in m s k n (x ∷ items) low = (low, within_in m s (k + 1) n items low)

all_join : {A : Type 0} (P : A → Type 0) (xs ys : List A) → AllByRecursion P xs → AllByRecursion P ys → AllByRecursion P (xs ++ ys)
all_join P [] ys a b = b
all_join P (x ∷ xs) ys a b = (a.0, all_join P xs ys a.1 b)

pub within_from : (m n : ℕ) (rs : List Read) → m + length rs ≤ n → AllByRecursion (λ (x : Sight). x.of_module < n) (sights_from m rs)
within_from m n [] low = tt
within_from m n (r ∷ rs) low =
    all_join (λ (x : Sight). x.of_module < n) (sights_in m r.segment 0 r.module_.items) (sights_from (m + 1) rs) (within_in m r.segment 0 n r.module_.items (omega arith)) (within_from (m + 1) n rs (omega arith))

-- an element that passes a test is an element that does
abbrev IsIn : {A : Type 0} → List A → A → Type 0
IsIn {A} all x = (q : A → Bool) → q x ≡ true → list_any q all ≡ true

among_all : {A : Type 0} (all xs : List A) → ((q : A → Bool) → list_any q xs ≡ true → list_any q all ≡ true) → AllByRecursion (IsIn all) xs
among_all all [] sub = tt
among_all all (x ∷ xs) sub = (λ q e. sub q (rw e refl), among_all all xs (λ q e. sub q (rw e (or_true (q x)))))

same_old : (rs : List Read) (m : SymModule) (s : ℕ) (x : Sight) → x.of_module < length rs → IsIn (sights rs) x → IsSame (with_module rs m s) rs x
same_old rs m s x low there =
    let section : kept_as (with_module rs m s) x (kind_of x.item) ≡ kept_as rs x (kind_of x.item) = kept_as_old rs m s x (kind_of x.item) (λ e. there (is_sd_named x.item.name) (sd_named_itself x e)) in
    let label : kept_in (with_module rs m s) x.of_module x.item.owner ≡ kept_in rs x.of_module x.item.owner = kept_in_old rs m s x.of_module x.item.owner low in
    (ap (λ (o : Option Symbol). (is_sd (kind_of x.item) || is_cm (kind_of x.item)) && is_some o) section, ap (λ (o : Option ℕ). is_label (kind_of x.item) && is_some o) label)

pub all_same_old : (rs : List Read) (m : SymModule) (s : ℕ) → AllByRecursion (IsSame (with_module rs m s) rs) (sights rs)
all_same_old rs m s =
    all_both (λ (x : Sight). x.of_module < length rs) (IsIn (sights rs)) (IsSame (with_module rs m s) rs) (same_old rs m s) (sights rs)
    (within_from 0 (length rs) rs (omega arith)) (among_all (sights rs) (sights rs) (λ q e. e))

-- where the modules before have no clash, the first is in the new module
pub clash_in_new : (rs : List Read) (m : SymModule) (s : ℕ) → double_definition rs ≡ None
    → double_definition (with_module rs m s) ≡ first_clash (with_module rs m s) (sights rs) (sights_in (length rs) s 0 m.items)
unfolding double_definition
clash_in_new rs m s none =
    let old : first_clash (with_module rs m s) [] (sights rs) ≡ None = first_clash_same (with_module rs m s) rs [] (sights rs) tt (all_same_old rs m s) ∙ none in
    ap (first_clash (with_module rs m s) []) (sights_with rs m s)
    ∙ first_clash-append (with_module rs m s) [] (sights rs) (sights_in (length rs) s 0 m.items)
    ∙ ap (λ (o : Option Name). option_or o (first_clash (with_module rs m s) (sights rs) (sights_in (length rs) s 0 m.items))) old

-- ---- the marks of the new module

pub marks_in : (rs : List Read) (flags : List Bool) (n s k : ℕ) (items : List Item)
    → ((i : ℕ) (x : Item) → slice_get items i ≡ Some x → is_some (kept_as rs (seen_at n s (k + i) x) (kind_of x)) ≡ flag_at flags (k + i))
    → ((j : ℕ) → is_some (kept_in rs n j) ≡ flag_at flags j) → AllByRecursion (IsMarked rs flags) (sights_in n s k items)
marks_in rs flags n s k [] sections labels = tt
marks_in rs flags n s k (x ∷ items) sections labels =
    let same : k + 0 ≡ k = omega arith in
    let later : (i : ℕ) (y : Item) → slice_get items i ≡ Some y → is_some (kept_as rs (seen_at n s (k + 1 + i) y) (kind_of y)) ≡ flag_at flags (k + 1 + i) = λ i y e.
    let shift : k + suc i ≡ k + 1 + i = omega arith in
    rw shift at (sections (suc i) y e) in
    ((rw same at (sections 0 x refl), labels x.owner), marks_in rs flags n s (k + 1) items later labels)
