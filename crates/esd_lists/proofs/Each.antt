-- Facts of each element of a list.
use Rattle.std.proofs.Common.{◌≡◌, ℕ, zero, suc, Bool, true, false, ◌&&◌, ◌||◌, cond, List, [], ◌∷◌, ◌++◌, map, fold, slice_get, Option, Some, None, refl, subst, filter, filter_map, ◌⊎◌, inl, inr}
use Rattle.std.specs.List.{list_any, AllByRecursion, cons_option}
use Rattle.sym_mod.specs.declared.module.SymConst.{SymConst}
use Rattle.linking_model.specs.Names.{with_first, inserted, in_order}
use Rattle.linking_model.specs.Kept.{Symbol, symbol_eq, stands_before}

pub both_true : (a b : Bool) → (a && b) ≡ true → (a ≡ true) × (b ≡ true)
both_true true b e = (refl, e)
both_true false b e = absurd cc

pub either_true : (a b : Bool) → (a || b) ≡ true → (a ≡ true) ⊎ (b ≡ true)
either_true true b e = inl refl
either_true false b e = inr e

pub all_at : {A : Type 0} (P : A → Type 0) (xs : List A) (i : ℕ) (x : A) → AllByRecursion P xs → slice_get xs i ≡ Some x → P x
all_at P [] i x all e = absurd cc
all_at {A} P (z ∷ xs) zero x all e =
    let same : z ≡ x = cc in
    subst P same all.0
all_at P (z ∷ xs) (suc i) x all e = all_at P xs i x all.1 e

made_case : {A B : Type 0} (P : A → Type 0) (Q : B → Type 0) (f : A → Option B) (x : A) (ys : List B) (o : Option B) → f x ≡ o → P x → ((x : A) (y : B) → P x → f x ≡ Some y → Q y)
    → AllByRecursion Q ys → AllByRecursion Q (cons_option o ys)
made_case P Q f x ys None e here gives more = more
made_case P Q f x ys (Some y) e here gives more = (gives x y here e, more)

-- what is made of elements that have P has Q
pub all_made : {A B : Type 0} (P : A → Type 0) (Q : B → Type 0) (f : A → Option B) → ((x : A) (y : B) → P x → f x ≡ Some y → Q y) → (xs : List A) → AllByRecursion P xs → AllByRecursion Q (filter_map f xs)
all_made P Q f gives [] all = tt
all_made P Q f gives (x ∷ xs) all = made_case P Q f x (filter_map f xs) (f x) refl all.0 gives (all_made P Q f gives xs all.1)

pub all_given : {A : Type 0} (P : A → Type 0) → ((x : A) → P x) → (xs : List A) → AllByRecursion P xs
all_given P f [] = tt
all_given P f (x ∷ xs) = (f x, all_given P f xs)

pub all_mapped : {A B : Type 0} (Q : B → Type 0) (f : A → B) → ((x : A) → Q (f x)) → (xs : List A) → AllByRecursion Q (map f xs)
all_mapped Q f gives [] = tt
all_mapped Q f gives (x ∷ xs) = (gives x, all_mapped Q f gives xs)

passing_case : {A : Type 0} (P : A → Type 0) (p : A → Bool) (x : A) (xs : List A) (b : Bool) → p x ≡ b → P x → AllByRecursion (λ z. P z × (p z ≡ true)) xs → AllByRecursion (λ z. P z × (p z ≡ true)) (cond b (x ∷ xs) xs)
passing_case P p x xs true e here more = ((here, e), more)
passing_case P p x xs false e here more = more

pub all_passing : {A : Type 0} (P : A → Type 0) (p : A → Bool) (xs : List A) → AllByRecursion P xs → AllByRecursion (λ z. P z × (p z ≡ true)) (filter p xs)
all_passing P p [] all = tt
all_passing P p (x ∷ xs) all = passing_case P p x (filter p xs) (p x) refl all.0 (all_passing P p xs all.1)

pub all_less : {A : Type 0} (P Q : A → Type 0) → ((x : A) → P x → Q x) → (xs : List A) → AllByRecursion P xs → AllByRecursion Q xs
all_less P Q f [] all = tt
all_less P Q f (x ∷ xs) all = (f x all.0, all_less P Q f xs all.1)

pub all_join : {A : Type 0} (P : A → Type 0) (xs ys : List A) → AllByRecursion P xs → AllByRecursion P ys → AllByRecursion P (xs ++ ys)
all_join P [] ys a b = b
all_join P (x ∷ xs) ys a b = (a.0, all_join P xs ys a.1 b)

any_case : {A : Type 0} (P : A → Type 0) (p : A → Bool) (x : A) (xs : List A) (b : Bool) → p x ≡ b → P x → (list_any p xs ≡ true → (z : A) × P z × (p z ≡ true)) → (b || list_any p xs) ≡ true → (z : A) × P z × (p z ≡ true)
any_case P p x xs true h here more e = (x, here, h)
any_case P p x xs false h here more e = more e

-- where some element passes, one that has P does
pub any_found : {A : Type 0} (P : A → Type 0) (p : A → Bool) (xs : List A) → AllByRecursion P xs → list_any p xs ≡ true → (x : A) × P x × (p x ≡ true)
any_found P p [] all e = absurd cc
any_found P p (x ∷ xs) all e = any_case P p x xs (p x) refl all.0 (any_found P p xs all.1) e

first_case : (P : Symbol → Type 0) (ys : List Symbol) (x : Symbol) (b : Bool) → AllByRecursion P ys → P x → AllByRecursion P (cond b ys (ys ++ x ∷ []))
first_case P ys x true all here = all
first_case P ys x false all here = all_join P ys (x ∷ []) all (here, tt)

pub all_fold : (P : Symbol → Type 0) (ys xs : List Symbol) → AllByRecursion P ys → AllByRecursion P xs → AllByRecursion P (fold (with_first symbol_eq) ys xs)
all_fold P ys [] before all = before
all_fold P ys (x ∷ xs) before all = all_fold P (with_first symbol_eq ys x) xs (first_case P ys x (list_any (symbol_eq x) ys) before all.0) all.1

inserted_case : (P : SymConst → Type 0) (x y : SymConst) (xs ys : List SymConst) (b : Bool) → P x → P y → AllByRecursion P xs → AllByRecursion P ys → AllByRecursion P (cond b (y ∷ xs) (x ∷ y ∷ ys))
inserted_case P x y xs ys true at_x at_y more all = (at_y, more)
inserted_case P x y xs ys false at_x at_y more all = (at_x, (at_y, all))

all_inserted : (P : SymConst → Type 0) (x : SymConst) (ys : List SymConst) → P x → AllByRecursion P ys → AllByRecursion P (inserted stands_before x ys)
all_inserted P x [] here all = (here, tt)
all_inserted P x (y ∷ ys) here all = inserted_case P x y (inserted stands_before x ys) ys (stands_before y x) here all.0 (all_inserted P x ys here all.1) all.1

pub all_in_order : (P : SymConst → Type 0) (xs : List SymConst) → AllByRecursion P xs → AllByRecursion P (in_order stands_before xs)
all_in_order P [] all = tt
all_in_order P (x ∷ xs) all = all_inserted P x (in_order stands_before xs) all.0 (all_in_order P xs all.1)
