-- Lists of elements that all have a property, and the sections of a program by their numbers.
use Rattle.std.proofs.Common.{◌≡◌, ℕ, zero, suc, ◌<◌, Bool, true, false, cond, List, [], ◌∷◌, ◌++◌, length, fold, slice_get, Option, Some, None, option_map, is_some, refl, subst, arith, filter_map, IsSomeAnd, All, AllPairs}
use Rattle.std.specs.List.{list_any, AllByRecursion, cons_option}
use Rattle.std.specs.Option.{option_and_then}
use Rattle.std.proofs.lemmas.List.Elements.{All-from_recursion}
use Rattle.std.proofs.lemmas.List.Kept.{AllPairs-cons}
use Rattle.std.proofs.lemmas.Option.{slice_get_within}
use Rattle.sym_mod.specs.declared.module.ItemKind.{ItemKind}
use Rattle.sym_mod.specs.declared.module.ItemKind.TheVariants.{Sd, Pc, Cm, Label as LabelItem, Er, Wx, Register}
use Rattle.sym_mod.specs.declared.program.Section.{Section}
use Rattle.sym_mod.specs.Kinds.{kind_of}
use Rattle.linking_model.specs.Names.{with_first}
use Rattle.linking_model.specs.Kept.{Read, Sight, Symbol, ByName, Private, symbol_eq, sights, section_symbol_for, section_symbol, section_symbols, section_number}
use Rattle.linking_model.specs.Merged.{section_of, sections}
use Rattle.esd_merge.proofs.Homes.{IsLocated, located, number_at, aligned}

-- ---- lists

pub recursion : {A : Type 0} (P : A → Type 0) (xs : List A) → All P xs → AllByRecursion P xs
recursion P [] all = tt
recursion P (x ∷ xs) all = (all 0 x (omega arith), recursion P xs (λ k d low. all (suc k) d (omega (arith, low))))

pub all_both : {A : Type 0} (P Q : A → Type 0) (xs : List A) → AllByRecursion P xs → AllByRecursion Q xs → AllByRecursion (λ x. P x × Q x) xs
all_both P Q [] a b = tt
all_both P Q (x ∷ xs) a b = ((a.0, b.0), all_both P Q xs a.1 b.1)

pub all_join : {A : Type 0} (P : A → Type 0) (xs ys : List A) → AllByRecursion P xs → AllByRecursion P ys → AllByRecursion P (xs ++ ys)
all_join P [] ys a b = b
all_join P (x ∷ xs) ys a b = (a.0, all_join P xs ys a.1 b)

pub all_onto : {A : Type 0} (P Q : A → Type 0) → ((x : A) → P x → Q x) → (xs : List A) → AllByRecursion P xs → AllByRecursion Q xs
all_onto P Q f [] all = tt
all_onto P Q f (x ∷ xs) all = (f x all.0, all_onto P Q f xs all.1)

pub all_mapped : {A B : Type 0} (P : A → Type 0) (Q : B → Type 0) (f : A → Option B) → ((x : A) (y : B) → P x → f x ≡ Some y → Q y) → (xs : List A) → AllByRecursion P xs → AllByRecursion Q (filter_map f xs)
all_mapped P Q f gives [] all = tt
all_mapped {B} P Q f gives (x ∷ xs) all = chosen (f x) (λ y e. gives x y all.0 e) (all_mapped P Q f gives xs all.1)
  where
    chosen : (o : Option B) → ((y : B) → o ≡ Some y → Q y) → AllByRecursion Q (filter_map f xs) → AllByRecursion Q (cons_option o (filter_map f xs))
    chosen None give more = more
    chosen (Some y) give more = (give y refl, more)

-- R holds of each element and each later one
abbrev pub Pairs : {A : Type 0} → (A → A → Type 0) → List A → Type 0
Pairs R [] = Unit {0}
Pairs R (x ∷ xs) = AllByRecursion (R x) xs × Pairs R xs

pub pairs_from : {A : Type 0} (R : A → A → Type 0) (xs : List A) → AllPairs R xs → Pairs R xs
pairs_from R [] all = tt
pairs_from R (x ∷ xs) all = (recursion (R x) xs (λ k d low. all 0 (suc k) d (omega arith) (omega (arith, low))), pairs_from R xs (λ i j d low high. all (suc i) (suc j) d (omega (arith, low)) (omega (arith, high))))

pub pairs_to : {A : Type 0} (R : A → A → Type 0) (xs : List A) → Pairs R xs → AllPairs R xs
pairs_to R [] all = λ i j d low high. absurd (omega (arith, high))
pairs_to R (x ∷ xs) all = AllPairs-cons R x xs (All-from_recursion (R x) xs all.0) (pairs_to R xs all.1)

pub pairs_mapped : {A B : Type 0} (P : A → Type 0) (Q : A → A → Type 0) (R : B → B → Type 0) (f : A → Option B) → ((x y : A) (v w : B) → P x → P y → Q x y → f x ≡ Some v → f y ≡ Some w → R v w)
    → (xs : List A) → AllByRecursion P xs → Pairs Q xs → Pairs R (filter_map f xs)
pairs_mapped P Q R f gives [] all two = tt
pairs_mapped {B} P Q R f gives (x ∷ xs) all two = chosen (f x) refl (pairs_mapped P Q R f gives xs all.1 two.1)
  where
    chosen : (o : Option B) → f x ≡ o → Pairs R (filter_map f xs) → Pairs R (cons_option o (filter_map f xs))
    chosen None e more = more
    chosen (Some v) e more =
        (all_mapped (λ y. P y × Q x y) (R v) f (λ y w h g. gives x y v w all.0 h.0 h.1 e g) xs (all_both P (Q x) xs all.1 two.0), more)

pub pairs_join : {A : Type 0} (R : A → A → Type 0) (xs ys : List A) → Pairs R xs → Pairs R ys → AllByRecursion (λ x. AllByRecursion (R x) ys) xs → Pairs R (xs ++ ys)
pairs_join R [] ys a b across = b
pairs_join R (x ∷ xs) ys a b across = (all_join (R x) xs ys a.0 across.0, pairs_join R xs ys a.1 b across.1)

pub all_at : {A : Type 0} (P : A → Type 0) (xs : List A) (k : ℕ) (x : A) → AllByRecursion P xs → slice_get xs k ≡ Some x → P x
all_at P [] k x all e = absurd cc
all_at P (y ∷ xs) zero x all e =
    let same : y ≡ x = cc in
    subst P same all.0
all_at P (y ∷ xs) (suc k) x all e = all_at P xs k x all.1 e

pub and_then_some : {A B : Type 0} (f : A → Option B) (o : Option A) (y : B) → option_and_then f o ≡ Some y → (x : A) × (o ≡ Some x) × (f x ≡ Some y)
and_then_some f None y e = absurd cc
and_then_some f (Some x) y e = (x, refl, e)

pub map_some : {A B : Type 0} (f : A → B) (o : Option A) (y : B) → option_map f o ≡ Some y → (x : A) × (o ≡ Some x) × (f x ≡ y)
map_some f None y e = absurd cc
map_some f (Some x) y e = (x, refl, cc)

pub some_and : {A : Type 0} (P : A → Type 0) (o : Option A) → IsSomeAnd o P → (x : A) × (o ≡ Some x) × P x
some_and P None h = absurd h
some_and P (Some x) h = (x, refl, h)

-- ---- each section symbol is a section

section_some : (rs : List Read) (x : Sight) (kind : ItemKind) (s : Symbol) → IsLocated rs x → section_symbol_for x kind ≡ Some s → is_some (section_of rs s) ≡ true
section_some rs x Sd s at_x e =
    let same : ByName x.item.name ≡ s = cc in
    subst (λ (s : Symbol). is_some (section_of rs s) ≡ true) same refl
section_some rs x Pc s at_x e =
    let same : Private x.of_module x.number ≡ s = cc in
    subst (λ (s : Symbol). is_some (section_of rs s) ≡ true) same (rw at_x refl)
section_some rs x Cm s at_x e =
    let same : ByName x.item.name ≡ s = cc in
    subst (λ (s : Symbol). is_some (section_of rs s) ≡ true) same refl
section_some rs x LabelItem s at_x e = absurd cc
section_some rs x Er s at_x e = absurd cc
section_some rs x Wx s at_x e = absurd cc
section_some rs x Register s at_x e = absurd cc

all_put : (P : Symbol → Type 0) (ys : List Symbol) (x : Symbol) (b : Bool) → AllByRecursion P ys → P x → AllByRecursion P (cond b ys (ys ++ x ∷ []))
all_put P ys x true all here = all
all_put P ys x false all here = all_join P ys (x ∷ []) all (here, tt)

all_firsts : (P : Symbol → Type 0) (ys xs : List Symbol) → AllByRecursion P ys → AllByRecursion P xs → AllByRecursion P (fold (with_first symbol_eq) ys xs)
all_firsts P ys [] old all = old
all_firsts P ys (x ∷ xs) old all = all_firsts P (with_first symbol_eq ys x) xs (all_put P ys x (list_any (symbol_eq x) ys) old all.0) all.1

pub all_sections : (rs : List Read) → AllByRecursion (λ s. is_some (section_of rs s) ≡ true) (section_symbols rs)
all_sections rs =
    all_firsts (λ s. is_some (section_of rs s) ≡ true) [] (filter_map section_symbol (sights rs)) tt
    (all_mapped (IsLocated rs) (λ s. is_some (section_of rs s) ≡ true) section_symbol (λ x s at_x e. section_some rs x (kind_of x.item) s at_x e) (sights rs) (located rs))

pub section_at : (rs : List Read) (s : Symbol) (j : ℕ) (sec : Section) → section_number rs s ≡ Some j → section_of rs s ≡ Some sec → slice_get (sections rs) j ≡ Some sec
section_at rs s j sec e is = aligned (section_of rs) (section_symbols rs) j s sec (all_sections rs) (number_at rs s j e) is

some_value : {A : Type 0} (o : Option A) → is_some o ≡ true → (x : A) × (o ≡ Some x)
some_value None e = absurd cc
some_value (Some x) e = (x, refl)

pub section_low : (rs : List Read) (s : Symbol) (j : ℕ) → section_number rs s ≡ Some j → j < length (sections rs)
section_low rs s j e =
    let some : is_some (section_of rs s) ≡ true = all_at (λ s. is_some (section_of rs s) ≡ true) (section_symbols rs) j s (all_sections rs) (number_at rs s j e) in
    let sec = some_value (section_of rs s) some in
    slice_get_within (sections rs) j sec.0 (section_at rs s j sec.0 e sec.1)
