-- Names that are unresolved, found by the index.
use Rattle.std.proofs.Common.{◌≡◌, ℕ, ◌+◌, Bool, true, false, ◌&&◌, ◌||◌, cond, List, [], ◌∷◌, ◌++◌, map, fold, slice_get, Option, Some, None, option_map, is_some, refl, sym, ap, ◌∙◌, subst, filter, filter_map, flat_map}
use Rattle.std.specs.Prelude.{position}
use Rattle.std.specs.List.{find, list_any, cons_option, enumerate_from}
use Rattle.std.specs.Option.{option_and_then, option_map_or}
use Rattle.std.proofs.lemmas.List.Folds.{list_any-append}
use Rattle.std.proofs.lemmas.List.Elements.{filter_map-append}
use Rattle.le_bytes.specs.declared.name.Name.{Name}
use Rattle.le_bytes.specs.Names.{name_eq}
use Rattle.sym_mod.specs.declared.module.Item.{Item}
use Rattle.sym_mod.specs.declared.module.ItemKind.{ItemKind}
use Rattle.sym_mod.specs.declared.module.ItemKind.TheVariants.{Sd, Pc, Cm, Label as LabelItem, Er, Wx, Register}
use Rattle.sym_mod.specs.declared.module.SymConst.{SymConst}
use Rattle.sym_mod.specs.declared.module.SymTerm.{SymTerm}
use Rattle.sym_mod.specs.declared.module.SymTarget.{SymTarget}
use Rattle.sym_mod.specs.declared.module.SymTarget.TheVariants.{Own, Named, Register as InRegister, Total as OfAll}
use Rattle.sym_mod.specs.declared.module.SymModule.{SymModule}
use Rattle.sym_mod.specs.declared.program.Label.{Label}
use Rattle.sym_mod.specs.Kinds.{kind_of, is_er, is_wx, is_label}
use Rattle.linking_model.specs.Kept.{Read, Sight, Symbol, ByName, Private, symbol_eq, sights, section_symbols, section_number, kept_in, kept_constants, name_in, appearance, symbol_for, symbol_of, seen_in, sights_in, sights_from}
use Rattle.linking_model.specs.Merged.{label_at, is_label_named, label_of, labels, definition, is_kept_label, has_item, is_referred, is_name_target, is_label_target, is_referenced, is_weak, unknown_of, unresolved}
use Rattle.esd_index.specs.Contents.{Contents}
use Rattle.esd_index.specs.Steps.{named_if, label_meant}
use Rattle.esd_lists.specs.declared.reading.Reading.{Reading}
use Rattle.esd_lists.specs.Indexed.{kept_label, named_in, labelled_in, content_of, Holds}
use Rattle.esd_lists.specs.Held.{as_read}
use Rattle.esd_lists.specs.Listed.{pushed, has, is_referenced_by, is_defined_by, is_weak_by, unknown_by}
use Rattle.esd_lists.proofs.Firsts.{name_refl, name_same, name_sym, symbol_same, any_firsts, position_found}
use Rattle.esd_lists.proofs.Sights.{any_find, find_passes, find_among, find_mapped}
use Rattle.esd_lists.proofs.Parts.{listed, filter_map_ext}

-- ---- tests

or_true : (b : Bool) → (b || true) ≡ true
or_true true = refl
or_true false = refl

pub any_or : {A : Type 0} (p q r : A → Bool) (xs : List A) → list_any (λ x. (p x || q x) && r x) xs ≡ (list_any (λ x. q x && r x) xs || list_any (λ x. p x && r x) xs)
any_or p q r [] = refl
any_or p q r (x ∷ xs) = join (p x) (q x) (r x) (list_any (λ x. (p x || q x) && r x) xs) (list_any (λ x. q x && r x) xs) (list_any (λ x. p x && r x) xs) (any_or p q r xs)
  where
    join : (a b c d e f : Bool) → d ≡ (e || f) → ((a || b) && c || d) ≡ ((b && c || e) || (a && c || f))
    join true true true d e f h = refl
    join true true false d e f h = h
    join true false true d e f h = sym (or_true e)
    join true false false d e f h = h
    join false true true d e f h = refl
    join false true false d e f h = h
    join false false c d e f h = h

label_among : (rs : List Read) (y : Name) (x : Sight) (xs : List Sight) (b : Bool) → list_any (symbol_eq (ByName y)) (filter_map (kept_label rs) xs) ≡ list_any (λ z. is_kept_label rs z && name_eq y z.item.name) xs
    → list_any (symbol_eq (ByName y)) (cons_option (cond b (Some (ByName x.item.name)) None) (filter_map (kept_label rs) xs))
    ≡ (b && name_eq y x.item.name || list_any (λ z. is_kept_label rs z && name_eq y z.item.name) xs)
label_among rs y x xs true more = rw more refl
label_among rs y x xs false more = more

pub any_label : (rs : List Read) (y : Name) (xs : List Sight) → list_any (symbol_eq (ByName y)) (filter_map (kept_label rs) xs) ≡ list_any (λ z. is_kept_label rs z && name_eq y z.item.name) xs
any_label rs y [] = refl
any_label rs y (x ∷ xs) = label_among rs y x xs (is_kept_label rs x) (any_label rs y xs)

-- ---- items with a name

named_among : (test : ItemKind → Bool) (y : Name) (x : Sight) (xs : List Sight) (b : Bool) → list_any (symbol_eq (ByName y)) (filter_map (λ (x : Sight). named_if test x.item) xs) ≡ list_any (λ (x : Sight). test (kind_of x.item) && name_eq x.item.name y) xs
    → list_any (symbol_eq (ByName y)) (cons_option (cond b (Some (ByName x.item.name)) None) (filter_map (λ (x : Sight). named_if test x.item) xs))
    ≡ (b && name_eq x.item.name y || list_any (λ (x : Sight). test (kind_of x.item) && name_eq x.item.name y) xs)
named_among test y x xs true more = rw (more, name_sym y x.item.name) refl
named_among test y x xs false more = more

pub any_named : (test : ItemKind → Bool) (y : Name) (xs : List Sight) → list_any (symbol_eq (ByName y)) (filter_map (λ (x : Sight). named_if test x.item) xs) ≡ list_any (λ (x : Sight). test (kind_of x.item) && name_eq x.item.name y) xs
any_named test y [] = refl
any_named test y (x ∷ xs) = named_among test y x xs (test (kind_of x.item)) (any_named test y xs)

strong_is : (rs : List Read) (y : Name) → has (content_of rs).strong y ≡ has_item rs is_er y
unfolding content_of
strong_is rs y = any_firsts (ByName y) (filter_map (λ (x : Sight). named_if is_er x.item) (sights rs)) ∙ any_named is_er y (sights rs)

weak_is : (rs : List Read) (y : Name) → has (content_of rs).weak y ≡ has_item rs is_wx y
unfolding content_of
weak_is rs y = any_firsts (ByName y) (filter_map (λ (x : Sight). named_if is_wx x.item) (sights rs)) ∙ any_named is_wx y (sights rs)

or_comm : (a b : Bool) → (a || b) ≡ (b || a)
or_comm true true = refl
or_comm true false = refl
or_comm false true = refl
or_comm false false = refl

either_item : (rs : List Read) (y : Name) → has_item rs (λ k. is_er k || is_wx k) y ≡ (has_item rs is_er y || has_item rs is_wx y)
either_item rs y =
    any_or (λ (x : Sight). is_er (kind_of x.item)) (λ x. is_wx (kind_of x.item)) (λ x. name_eq x.item.name y) (sights rs)
    ∙ or_comm (has_item rs is_wx y) (has_item rs is_er y)

-- ---- names to which constants refer

pub any_flat : {A B : Type 0} (p : B → Bool) (f : A → List B) (xs : List A) → list_any p (flat_map f xs) ≡ list_any (λ x. list_any p (f x)) xs
any_flat p f [] = refl
any_flat p f (x ∷ xs) = list_any-append p (f x) (flat_map f xs) ∙ ap (λ (b : Bool). list_any p (f x) || b) (any_flat p f xs)

any_ext : {A : Type 0} (p q : A → Bool) → ((x : A) → p x ≡ q x) → (xs : List A) → list_any p xs ≡ list_any q xs
any_ext p q same [] = refl
any_ext p q same (x ∷ xs) = rw (same x, any_ext p q same xs) refl

any_mapped : {A : Type 0} (p : Symbol → Bool) (f : A → Option Symbol) (xs : List A) → list_any p (filter_map f xs) ≡ list_any (λ x. option_map_or p (f x) false) xs
any_mapped p f [] = refl
any_mapped p f (x ∷ xs) = chosen p f xs (f x) (any_mapped p f xs)
  where
    chosen : {A : Type 0} (p : Symbol → Bool) (f : A → Option Symbol) (xs : List A) (o : Option Symbol) → list_any p (filter_map f xs) ≡ list_any (λ x. option_map_or p (f x) false) xs
        → list_any p (cons_option o (filter_map f xs)) ≡ (option_map_or p o false || list_any (λ x. option_map_or p (f x) false) xs)
    chosen p f xs None more = more
    chosen p f xs (Some y) more = ap (λ (b : Bool). p y || b) more

name_target : (y : Name) (t : SymTarget) → option_map_or (symbol_eq (ByName y)) (option_map ByName (name_in t)) false ≡ is_name_target y t
name_target y (Own n) = refl
name_target y (Named x) = name_sym y x
name_target y (InRegister x) = refl
name_target y OfAll = refl

item_target : (y : Name) (o : Option Item) → option_map_or (symbol_eq (ByName y)) (option_and_then (λ (x : Item). cond (is_label x.kind) (Some (ByName x.name)) None) o) false ≡ option_map_or (λ (x : Item). is_label x.kind && name_eq x.name y) o false
item_target y None = refl
item_target y (Some x) = chosen (is_label x.kind)
  where
    chosen : (b : Bool) → option_map_or (symbol_eq (ByName y)) (cond b (Some (ByName x.name)) None) false ≡ (b && name_eq x.name y)
    chosen true = name_sym y x.name
    chosen false = refl

label_target : (y : Name) (m : SymModule) (t : SymTarget) → option_map_or (symbol_eq (ByName y)) (label_meant m.items t) false ≡ is_label_target y m t
label_target y m (Own n) = item_target y (slice_get m.items n)
label_target y m (Named x) = refl
label_target y m (InRegister x) = refl
label_target y m OfAll = refl

-- the constants of one module
abbrev refers : (SymModule → SymTarget → Bool) → List Read → ℕ × Read → Bool
refers test rs (m, r) = list_any (λ c. list_any (λ t. test r.module_ t.target) c.terms) (kept_constants rs m r.module_)

named_here : (rs : List Read) (y : Name) (m : ℕ) (r : Read) → list_any (symbol_eq (ByName y)) (named_in rs (m, r)) ≡ refers (λ n t. is_name_target y t) rs (m, r)
named_here rs y m r =
    any_flat (symbol_eq (ByName y)) (λ (c : SymConst). filter_map (λ t. option_map ByName (name_in t.target)) c.terms) (kept_constants rs m r.module_)
    ∙ any_ext (λ (c : SymConst). list_any (symbol_eq (ByName y)) (filter_map (λ t. option_map ByName (name_in t.target)) c.terms)) (λ c. list_any (λ t. is_name_target y t.target) c.terms)
    (λ c. any_mapped (symbol_eq (ByName y)) (λ (t : SymTerm). option_map ByName (name_in t.target)) c.terms ∙ any_ext (λ (t : SymTerm). option_map_or (symbol_eq (ByName y)) (option_map ByName (name_in t.target)) false) (λ t. is_name_target y t.target) (λ t. name_target y t.target) c.terms)
    (kept_constants rs m r.module_)

labelled_here : (rs : List Read) (y : Name) (m : ℕ) (r : Read) → list_any (symbol_eq (ByName y)) (labelled_in rs (m, r)) ≡ refers (is_label_target y) rs (m, r)
labelled_here rs y m r =
    any_flat (symbol_eq (ByName y)) (λ (c : SymConst). filter_map (λ t. label_meant r.module_.items t.target) c.terms) (kept_constants rs m r.module_)
    ∙ any_ext (λ (c : SymConst). list_any (symbol_eq (ByName y)) (filter_map (λ t. label_meant r.module_.items t.target) c.terms)) (λ c. list_any (λ t. is_label_target y r.module_ t.target) c.terms)
    (λ c. any_mapped (symbol_eq (ByName y)) (λ (t : SymTerm). label_meant r.module_.items t.target) c.terms ∙ any_ext (λ (t : SymTerm). option_map_or (symbol_eq (ByName y)) (label_meant r.module_.items t.target) false) (λ t. is_label_target y r.module_ t.target) (λ t. label_target y r.module_ t.target) c.terms)
    (kept_constants rs m r.module_)

any_pairs : (p q : ℕ × Read → Bool) → ((m : ℕ) (r : Read) → p (m, r) ≡ q (m, r)) → (n : ℕ) (rs : List Read) → list_any p (enumerate_from n rs) ≡ list_any q (enumerate_from n rs)
any_pairs p q same n [] = refl
any_pairs p q same n (r ∷ rs) = rw (same n r, any_pairs p q same (n + 1) rs) refl

named_is : (rs : List Read) (y : Name) → has (content_of rs).named y ≡ is_referred rs (λ m t. is_name_target y t)
unfolding content_of
named_is rs y =
    any_firsts (ByName y) (flat_map (named_in rs) (enumerate_from 0 rs)) ∙ any_flat (symbol_eq (ByName y)) (named_in rs) (enumerate_from 0 rs)
    ∙ any_pairs (λ x. list_any (symbol_eq (ByName y)) (named_in rs x)) (refers (λ n t. is_name_target y t) rs) (named_here rs y) 0 rs

labelled_is : (rs : List Read) (y : Name) → has (content_of rs).labelled y ≡ is_referred rs (is_label_target y)
unfolding content_of
labelled_is rs y =
    any_firsts (ByName y) (flat_map (labelled_in rs) (enumerate_from 0 rs)) ∙ any_flat (symbol_eq (ByName y)) (labelled_in rs) (enumerate_from 0 rs)
    ∙ any_pairs (λ x. list_any (symbol_eq (ByName y)) (labelled_in rs x)) (refers (is_label_target y) rs) (labelled_here rs y) 0 rs

any_two : {A : Type 0} (p q : A → Bool) (xs : List A) → list_any (λ x. p x || q x) xs ≡ (list_any p xs || list_any q xs)
any_two p q [] = refl
any_two p q (x ∷ xs) = join (p x) (q x) (list_any p xs) (list_any q xs) (list_any (λ x. p x || q x) xs) (any_two p q xs)
  where
    join : (a b c d e : Bool) → e ≡ (c || d) → ((a || b) || e) ≡ ((a || c) || (b || d))
    join true b c d e h = refl
    join false true true d e h = refl
    join false true false d e h = refl
    join false false c d e h = h

refers_either : (rs : List Read) (y : Name) (m : ℕ) (r : Read) → refers (λ n t. is_name_target y t || is_label_target y n t) rs (m, r) ≡ (refers (λ n t. is_name_target y t) rs (m, r) || refers (is_label_target y) rs (m, r))
refers_either rs y m r =
    any_ext (λ (c : SymConst). list_any (λ t. is_name_target y t.target || is_label_target y r.module_ t.target) c.terms) (λ c. list_any (λ t. is_name_target y t.target) c.terms || list_any (λ t. is_label_target y r.module_ t.target) c.terms)
    (λ c. any_two (λ (t : SymTerm). is_name_target y t.target) (λ t. is_label_target y r.module_ t.target) c.terms) (kept_constants rs m r.module_)
    ∙ any_two (λ (c : SymConst). list_any (λ t. is_name_target y t.target) c.terms) (λ c. list_any (λ t. is_label_target y r.module_ t.target) c.terms) (kept_constants rs m r.module_)

either_referred : (rs : List Read) (y : Name) → is_referred rs (λ m t. is_name_target y t || is_label_target y m t) ≡ (is_referred rs (λ m t. is_name_target y t) || is_referred rs (is_label_target y))
either_referred rs y =
    any_pairs (refers (λ n t. is_name_target y t || is_label_target y n t) rs) (λ x. refers (λ n t. is_name_target y t) rs x || refers (is_label_target y) rs x) (refers_either rs y) 0 rs
    ∙ any_two (refers (λ n t. is_name_target y t) rs) (refers (is_label_target y) rs) (enumerate_from 0 rs)

referenced_is : (rs : List Read) (y : Name) → is_referenced_by (content_of rs) y ≡ is_referenced rs y
referenced_is rs y = rw (strong_is rs y, weak_is rs y, named_is rs y, labelled_is rs y, either_item rs y, either_referred rs y) refl

weak_name_is : (rs : List Read) (y : Name) → is_weak_by (content_of rs) y ≡ is_weak rs y
weak_name_is rs y = rw (strong_is rs y, weak_is rs y, labelled_is rs y) refl

-- ---- names that are defined

pub one_answer : (a b : Bool) → (a ≡ true → b ≡ true) → (b ≡ true → a ≡ true) → a ≡ b
one_answer true true f g = refl
one_answer false false f g = refl
one_answer true false f g = sym (f refl)
one_answer false true f g = g refl

pub both_true : (a b : Bool) → (a && b) ≡ true → (a ≡ true) × (b ≡ true)
both_true true b e = (refl, e)
both_true false b e = absurd cc

pub any_options : {A B : Type 0} (p : B → Bool) (f : A → Option B) (xs : List A) → list_any p (filter_map f xs) ≡ list_any (λ x. option_map_or p (f x) false) xs
any_options p f [] = refl
any_options p f (x ∷ xs) = chosen p f xs (f x) (any_options p f xs)
  where
    chosen : {A B : Type 0} (p : B → Bool) (f : A → Option B) (xs : List A) (o : Option B) → list_any p (filter_map f xs) ≡ list_any (λ x. option_map_or p (f x) false) xs
        → list_any p (cons_option o (filter_map f xs)) ≡ (option_map_or p o false || list_any (λ x. option_map_or p (f x) false) xs)
    chosen p f xs None more = more
    chosen p f xs (Some y) more = ap (λ (b : Bool). p y || b) more

-- the first of the kept ones comes from an element
pub head_any : {A B : Type 0} (f : A → Option B) (p q : A → Bool) (r : B → Bool) → ((z : A) (l : B) → p z ≡ true → f z ≡ Some l → r l ≡ true → q z ≡ true) → (xs : List A)
    → option_map_or r (slice_get (filter_map f (filter p xs)) 0) false ≡ true → list_any q xs ≡ true
head_any f p q r gives [] e = absurd cc
head_any f p q r gives (z ∷ xs) e = kind_case f p q r gives z xs (p z) (f z) refl refl (head_any f p q r gives xs) e
  where
    kind_case : {A B : Type 0} (f : A → Option B) (p q : A → Bool) (r : B → Bool) → ((z : A) (l : B) → p z ≡ true → f z ≡ Some l → r l ≡ true → q z ≡ true) → (z : A) (xs : List A) (b : Bool) (o : Option B)
        → p z ≡ b → f z ≡ o → (option_map_or r (slice_get (filter_map f (filter p xs)) 0) false ≡ true → list_any q xs ≡ true)
        → option_map_or r (slice_get (filter_map f (cond b (z ∷ filter p xs) (filter p xs))) 0) false ≡ true → (q z || list_any q xs) ≡ true
    kind_case f p q r gives z xs true (Some l) d g more e = rw (gives z l d g (rw g at e)) refl
    kind_case f p q r gives z xs true None d g more e = rw (more (rw g at e)) (or_true (q z))
    kind_case f p q r gives z xs false o d g more e = rw (more e) (or_true (q z))

pub head_some : {A B : Type 0} (f : A → Option B) (p : A → Bool) (xs : List A) → list_any (λ z. p z && is_some (f z)) xs ≡ true → is_some (slice_get (filter_map f (filter p xs)) 0) ≡ true
head_some f p [] e = absurd cc
head_some f p (z ∷ xs) e = kind_case f p z xs (p z) (f z) refl (head_some f p xs) e
  where
    kind_case : {A B : Type 0} (f : A → Option B) (p : A → Bool) (z : A) (xs : List A) (b : Bool) (o : Option B) → f z ≡ o
        → (list_any (λ z. p z && is_some (f z)) xs ≡ true → is_some (slice_get (filter_map f (filter p xs)) 0) ≡ true)
        → (b && is_some o || list_any (λ z. p z && is_some (f z)) xs) ≡ true → is_some (slice_get (filter_map f (cond b (z ∷ filter p xs) (filter p xs))) 0) ≡ true
    kind_case f p z xs true (Some l) g more e = rw g refl
    kind_case f p z xs true None g more e = rw g (more e)
    kind_case f p z xs false o g more e = more e

label_name_case : (rs : List Read) (z : Sight) (l : Label) (o : Option ℕ) (n : ℕ) → option_map (λ i. let x : Label = record { name = z.item.name; rank = n; section = i; offset = 0 } in x.name) o ≡ Some l.name → z.item.name ≡ l.name
label_name_case rs z l None n e = absurd cc
label_name_case rs z l (Some i) n e = cc

map_map : {A B C : Type 0} (f : A → B) (g : B → C) (o : Option A) → option_map g (option_map f o) ≡ option_map (λ x. g (f x)) o
map_map f g None = refl
map_map f g (Some x) = refl

pub label_name : (rs : List Read) (z : Sight) (l : Label) → label_at rs z ≡ Some l → z.item.name ≡ l.name
label_name rs z l e =
    let named : option_map (λ (x : Label). x.name) (label_at rs z) ≡ Some l.name = ap (option_map (λ (x : Label). x.name)) e in
    const_case (kept_in rs z.of_module z.item.owner) z.item.name l.name (sym (map_map _ (λ (x : Label). x.name) (kept_in rs z.of_module z.item.owner)) ∙ named)
  where
    const_case : (o : Option ℕ) (n m : Name) → option_map (λ (i : ℕ). n) o ≡ Some m → n ≡ m
    const_case None n m e = absurd cc
    const_case (Some i) n m e = cc

pub some_map : {A B : Type 0} (f : A → B) (o : Option A) → is_some (option_map f o) ≡ is_some o
some_map f None = refl
some_map f (Some x) = refl

abbrev pub kept_label_named : List Read → Name → Sight → Bool
kept_label_named rs y z = is_kept_label rs z && name_eq y z.item.name

-- a label of the program comes from a kept label item
label_from : (rs : List Read) (y n : Name) (z : Sight) (l : Label) → is_label_named n z ≡ true → label_at rs z ≡ Some l → name_eq l.name y ≡ true → kept_label_named rs y z ≡ true
label_from rs y n z l named at_z same =
    let kind = both_true (is_label (kind_of z.item)) (name_eq z.item.name n) named in
    let kept : is_some (kept_in rs z.of_module z.item.owner) ≡ true = sym (some_map _ (kept_in rs z.of_module z.item.owner)) ∙ ap is_some at_z in
    let name : name_eq y z.item.name ≡ true = rw (label_name rs z l at_z) (name_sym y l.name ∙ same) in
    rw (kind.0, kept, name) refl

label_symbol : (rs : List Read) (y : Name) (s : Symbol) → option_map_or (λ (x : Label). name_eq x.name y) (label_of rs s) false ≡ true → list_any (kept_label_named rs y) (sights rs) ≡ true
label_symbol rs y (ByName n) e = head_any (label_at rs) (is_label_named n) (kept_label_named rs y) (λ (x : Label). name_eq x.name y) (λ z l. label_from rs y n z l) (sights rs) e
label_symbol rs y (Private k i) e = absurd cc

any_found : {A : Type 0} (p : A → Bool) (q : Bool) (xs : List A) (o : Option A) → find p xs ≡ o → is_some o ≡ true → ((x : A) → p x ≡ true → q ≡ true) → q ≡ true
any_found p q xs None found e gives = absurd cc
any_found p q xs (Some x) found e gives = gives x (find_passes p xs x found)

-- ---- what appears

or_left : (a b : Bool) → a ≡ true → (a || b) ≡ true
or_left true b e = refl
or_left false b e = absurd cc

seen_grows : (p : Symbol → Bool) (a b c d : List Symbol) → (list_any p c ≡ true → list_any p d ≡ true) → list_any p (a ++ c) ≡ true → list_any p ((a ++ b) ++ d) ≡ true
seen_grows p a b c d more e = join (list_any p a) (list_any p b) (list_any p c) (list_any p d) more (sym (list_any-append p a c) ∙ e) (list_any-append p (a ++ b) d ∙ ap (λ (x : Bool). x || list_any p d) (list_any-append p a b))
  where
    join : (w x y z : Bool) → (y ≡ true → z ≡ true) → (w || y) ≡ true → list_any p ((a ++ b) ++ d) ≡ ((w || x) || z) → list_any p ((a ++ b) ++ d) ≡ true
    join true x y z more e is = is
    join false true y z more e is = is
    join false false y z more e is = is ∙ more e

pub seen_some : (p : Symbol → Bool) (rs : List Read) (m : ℕ) (xs : List Read) → list_any p (filter_map symbol_of (sights_from m xs)) ≡ true → list_any p (flat_map (seen_in rs) (enumerate_from m xs)) ≡ true
seen_some p rs m [] e = absurd cc
seen_some p rs m (r ∷ xs) e =
    seen_grows p (filter_map symbol_of (sights_in m r.segment 0 r.module_.items)) _ (filter_map symbol_of (sights_from (m + 1) xs)) (flat_map (seen_in rs) (enumerate_from (m + 1) xs))
    (seen_some p rs (m + 1) xs) (rw (filter_map-append symbol_of (sights_in m r.segment 0 r.module_.items) (sights_from (m + 1) xs)) at e)

-- what an item is appears
pub appears : (rs : List Read) (s : Symbol) → list_any (symbol_eq s) (filter_map symbol_of (sights rs)) ≡ true → list_any (symbol_eq s) (appearance rs) ≡ true
unfolding appearance
appears rs s e = any_firsts s (flat_map (seen_in rs) (enumerate_from 0 rs)) ∙ seen_some (symbol_eq s) rs 0 rs e

label_symbol_of : (x : Sight) (kind : ItemKind) → is_label kind ≡ true → symbol_for x kind ≡ Some (ByName x.item.name)
label_symbol_of x Sd e = absurd cc
label_symbol_of x Pc e = absurd cc
label_symbol_of x Cm e = absurd cc
label_symbol_of x LabelItem e = refl
label_symbol_of x Er e = absurd cc
label_symbol_of x Wx e = absurd cc
label_symbol_of x Register e = absurd cc

some_name : (rs : List Read) (y : Name) (o : Option Label) → is_some o ≡ true → ((l : Label) → o ≡ Some l → y ≡ l.name) → option_map_or (λ (x : Label). name_eq x.name y) o false ≡ true
some_name rs y None e names = absurd cc
some_name rs y (Some l) e names = rw (names l refl) (name_refl l.name)

comes_case : {A B : Type 0} (f : A → Option B) (p : A → Bool) (z : A) (xs : List A) (l : B) (b : Bool) (o : Option B) → p z ≡ b → f z ≡ o
    → (slice_get (filter_map f (filter p xs)) 0 ≡ Some l → (w : A) × (p w ≡ true) × (f w ≡ Some l))
    → slice_get (filter_map f (cond b (z ∷ filter p xs) (filter p xs))) 0 ≡ Some l → (w : A) × (p w ≡ true) × (f w ≡ Some l)
comes_case f p z xs l true (Some x) d g more e = (z, d, g ∙ (rw g at e))
comes_case f p z xs l true None d g more e = more (rw g at e)
comes_case f p z xs l false o d g more e = more e

-- the first of the kept ones comes from an element
pub head_comes : {A B : Type 0} (f : A → Option B) (p : A → Bool) (xs : List A) (l : B) → slice_get (filter_map f (filter p xs)) 0 ≡ Some l → (w : A) × (p w ≡ true) × (f w ≡ Some l)
head_comes f p [] l e = absurd cc
head_comes f p (z ∷ xs) l e = comes_case f p z xs l (p z) (f z) refl refl (head_comes f p xs l) e

pub head_name : (rs : List Read) (y : Name) (xs : List Sight) (l : Label) → slice_get (filter_map (label_at rs) (filter (is_label_named y) xs)) 0 ≡ Some l → y ≡ l.name
head_name rs y xs l e =
    let from = head_comes (label_at rs) (is_label_named y) xs l e in
    let kind = both_true (is_label (kind_of from.0.item)) (name_eq from.0.item.name y) from.1 in
    sym (name_same from.0.item.name y kind.1) ∙ label_name rs from.0 l from.2

-- a kept label item makes a label of the program
label_made : (rs : List Read) (y : Name) (z : Sight) → list_any (kept_label_named rs y) (sights rs) ≡ true → find (kept_label_named rs y) (sights rs) ≡ Some z → option_map_or (λ (x : Label). name_eq x.name y) (label_of rs (ByName y)) false ≡ true
label_made rs y z any found =
    let is = both_true (is_kept_label rs z) (name_eq y z.item.name) (find_passes (kept_label_named rs y) (sights rs) z found) in
    let kind = both_true (is_label (kind_of z.item)) (is_some (kept_in rs z.of_module z.item.owner)) is.0 in
    let there : (is_label_named y z && is_some (label_at rs z)) ≡ true = rw (kind.0, name_sym z.item.name y, is.1) (some_map _ (kept_in rs z.of_module z.item.owner) ∙ kind.1) in
    let head : is_some (label_of rs (ByName y)) ≡ true = head_some (label_at rs) (is_label_named y) (sights rs) (find_among (kept_label_named rs y) (λ z. is_label_named y z && is_some (label_at rs z)) (sights rs) z found there) in
    some_name rs y (label_of rs (ByName y)) head (head_name rs y (sights rs))

label_appears : (rs : List Read) (y : Name) (z : Sight) → find (kept_label_named rs y) (sights rs) ≡ Some z → list_any (symbol_eq (ByName y)) (appearance rs) ≡ true
label_appears rs y z found =
    let is = both_true (is_kept_label rs z) (name_eq y z.item.name) (find_passes (kept_label_named rs y) (sights rs) z found) in
    let kind = both_true (is_label (kind_of z.item)) (is_some (kept_in rs z.of_module z.item.owner)) is.0 in
    let name : y ≡ z.item.name = name_same y z.item.name is.1 in
    appears rs (ByName y) (rw name (find_mapped (kept_label_named rs y) symbol_of (sights rs) z (ByName z.item.name) found (label_symbol_of z (kind_of z.item) kind.0)))

pub symbol_passes : (q : Symbol → Bool) (s : Symbol) (xs : List Symbol) (o : Option Symbol) → find (symbol_eq s) xs ≡ o → is_some o ≡ true → q s ≡ true → list_any q xs ≡ true
symbol_passes q s xs None found e here = absurd cc
symbol_passes q s xs (Some x) found e here =
    find_among (symbol_eq s) q xs x found (subst (λ (w : Symbol). q w ≡ true) (symbol_same s x (find_passes (symbol_eq s) xs x found)) here)

made_label : (rs : List Read) (y : Name) (o : Option Sight) → find (kept_label_named rs y) (sights rs) ≡ o → list_any (kept_label_named rs y) (sights rs) ≡ true → is_some o ≡ true
    → list_any (λ s. option_map_or (λ (x : Label). name_eq x.name y) (label_of rs s) false) (appearance rs) ≡ true
made_label rs y None found any e = absurd cc
made_label rs y (Some z) found any e =
    let there : list_any (symbol_eq (ByName y)) (appearance rs) ≡ true = label_appears rs y z found in
    symbol_passes (λ s. option_map_or (λ (x : Label). name_eq x.name y) (label_of rs s) false) (ByName y) (appearance rs) (find (symbol_eq (ByName y)) (appearance rs)) refl
    (sym (any_find (symbol_eq (ByName y)) (appearance rs)) ∙ there) (label_made rs y z any found)

some_symbol : (rs : List Read) (y : Name) (o : Option Symbol) → find (λ s. option_map_or (λ (x : Label). name_eq x.name y) (label_of rs s) false) (appearance rs) ≡ o → is_some o ≡ true → list_any (kept_label_named rs y) (sights rs) ≡ true
some_symbol rs y None found e = absurd cc
some_symbol rs y (Some s) found e = label_symbol rs y s (find_passes (λ s. option_map_or (λ (x : Label). name_eq x.name y) (label_of rs s) false) (appearance rs) s found)

-- a label of the program has the name where a kept label item has
pub labels_any : (rs : List Read) (y : Name) → list_any (λ (x : Label). name_eq x.name y) (labels rs) ≡ list_any (kept_label_named rs y) (sights rs)
labels_any rs y =
    any_options (λ (x : Label). name_eq x.name y) (label_of rs) (appearance rs)
    ∙ one_answer (list_any (λ s. option_map_or (λ (x : Label). name_eq x.name y) (label_of rs s) false) (appearance rs)) (list_any (kept_label_named rs y) (sights rs))
    (λ e. some_symbol rs y (find (λ s. option_map_or (λ (x : Label). name_eq x.name y) (label_of rs s) false) (appearance rs)) refl (sym (any_find (λ s. option_map_or (λ (x : Label). name_eq x.name y) (label_of rs s) false) (appearance rs)) ∙ e))
    (λ e. made_label rs y (find (kept_label_named rs y) (sights rs)) refl e (sym (any_find (kept_label_named rs y) (sights rs)) ∙ e))

defined_case : (rs : List Read) (y : Name) (a b : Option ℕ) → section_number rs (ByName y) ≡ a → position (λ (x : Label). name_eq x.name y) (labels rs) ≡ b → is_some (definition rs y) ≡ (is_some a || is_some b)
unfolding definition
defined_case rs y (Some i) b d e = rw d refl
defined_case rs y None (Some i) d e = rw (d, e) refl
defined_case rs y None None d e = rw (d, e) refl

pub labels_has : (rs : List Read) (y : Name) → has (content_of rs).labels y ≡ list_any (λ (x : Label). name_eq x.name y) (labels rs)
unfolding content_of
labels_has rs y = any_firsts (ByName y) (filter_map (kept_label rs) (sights rs)) ∙ any_label rs y (sights rs) ∙ sym (labels_any rs y)

sections_has : (rs : List Read) (y : Name) → has (content_of rs).sections y ≡ is_some (section_number rs (ByName y))
unfolding content_of
sections_has rs y = sym (position_found (symbol_eq (ByName y)) (section_symbols rs))

pub defined_is : (rs : List Read) (y : Name) → is_defined_by (content_of rs) y ≡ is_some (definition rs y)
defined_is rs y =
    rw (sections_has rs y, labels_has rs y)
    (ap (λ (b : Bool). is_some (section_number rs (ByName y)) || b) (sym (position_found (λ (x : Label). name_eq x.name y) (labels rs)))
    ∙ sym (defined_case rs y (section_number rs (ByName y)) (position (λ (x : Label). name_eq x.name y) (labels rs)) refl refl))

pub unknown_is : (rs : List Read) (y : Symbol) → unknown_by (content_of rs) y ≡ unknown_of rs y
unfolding unknown_by
unknown_is rs (ByName y) = rw (referenced_is rs y, defined_is rs y, weak_name_is rs y) refl
unknown_is rs (Private k i) = refl

symbols_of : (rs : List Read) → (content_of rs).symbols ≡ appearance rs
unfolding content_of
symbols_of rs = refl

pub unknowns_are : (c : Contents) (xs : List Reading) → Holds c xs → fold (λ ls y. pushed ls (unknown_by c y)) [] c.symbols ≡ unresolved (map as_read xs)
unfolding unresolved
unknowns_are c xs h =
    let rs : List Read = map as_read xs in
    rw h.indexed (listed (unknown_by (content_of rs)) (unknown_of rs) (unknown_is rs) (content_of rs).symbols ∙ ap (filter_map (unknown_of rs)) (symbols_of rs))

pub unknown_list : (rs : List Read) (c : Contents) → c ≡ content_of rs → filter_map (unknown_by c) c.symbols ≡ unresolved rs
unfolding unresolved
unknown_list rs c is = rw is (filter_map_ext (unknown_by (content_of rs)) (unknown_of rs) (unknown_is rs) (content_of rs).symbols ∙ ap (filter_map (unknown_of rs)) (symbols_of rs))
