-- Lists of which some elements go, and lists each element of which is changed: what holds of each element, of each pair, of
-- one at a place, and of some one.
use Rattle.std.proofs.Common.{◌≡◌, ℕ, Bool, true, false, ◌||◌, List, [], ◌∷◌, zero, suc, length, map, slice_get, filter_map, Option, Some, None, IsSomeAnd, refl, sym, ap, ◌∙◌, subst, arith, ◌⊎◌, inl, inr}
use Rattle.std.specs.Prelude.{All, AllPairs, ⊤}
use Rattle.std.specs.List.{list_any, AllByRecursion, cons_option}
use Rattle.std.proofs.lemmas.List.Elements.{All-from_recursion}
use Rattle.std.proofs.lemmas.List.Kept.{AllPairs-cons}
use Rattle.sym_edit.specs.Without.{stays, stay_before, remaining}
use Rattle.sym_edit.proofs.Numbered.{stay_before-staying, stay_before-going}

-- ---- elements of which some go

-- what stays at a place stands at its new place
pub moved : {A B : Type 0} (f : A → B) (P : A → Type 0) (Q : B → Type 0) → ((x : A) → P x → Q (f x)) → (gone : List Bool) (xs : List A) (i : ℕ) → stays gone i ≡ true → IsSomeAnd (slice_get xs i) P → IsSomeAnd (slice_get (map f (remaining gone xs)) (stay_before gone i)) Q
moved f P Q keeps [] xs i is h = absurd (cc is)
moved f P Q keeps (g ∷ gone) [] i is h = absurd h
moved f P Q keeps (true ∷ gone) (x ∷ xs) zero is h = absurd (cc is)
moved f P Q keeps (false ∷ gone) (x ∷ xs) zero is h = keeps x h
moved f P Q keeps (true ∷ gone) (x ∷ xs) (suc i) is h = rw (stay_before-going gone i) (moved f P Q keeps gone xs i is h)
moved f P Q keeps (false ∷ gone) (x ∷ xs) (suc i) is h = rw (stay_before-staying gone i) (moved f P Q keeps gone xs i is h)

pub all_remaining : {A B : Type 0} (f : A → B) (Q : B → Type 0) (gone : List Bool) (xs : List A) → ((i : ℕ) (x : A) → slice_get gone i ≡ Some false → slice_get xs i ≡ Some x → Q (f x)) → AllByRecursion Q (map f (remaining gone xs))
all_remaining f Q [] xs h = tt
all_remaining f Q (g ∷ gone) [] h = tt
all_remaining f Q (true ∷ gone) (x ∷ xs) h = all_remaining f Q gone xs (λ i y. h (suc i) y)
all_remaining f Q (false ∷ gone) (x ∷ xs) h = (h zero x refl refl, all_remaining f Q gone xs (λ i y. h (suc i) y))

either : (b c : Bool) → (b || c) ≡ true → (b ≡ true) ⊎ (c ≡ true)
either true c is = inl refl
either false c is = inr is

or_first : (b c : Bool) → b ≡ true → (b || c) ≡ true
or_first b c is = rw is refl

or_second : (b c : Bool) → c ≡ true → (b || c) ≡ true
or_second true c is = refl
or_second false c is = is

-- where nothing goes that passes the test, some element still passes
pub any_remaining : {A B : Type 0} (f : A → B) (p : A → Bool) (q : B → Bool) → ((x : A) → p x ≡ true → q (f x) ≡ true) → (gone : List Bool) (xs : List A) → length gone ≡ length xs → ((i : ℕ) (x : A) → slice_get gone i ≡ Some true → slice_get xs i ≡ Some x → p x ≡ false) → list_any p xs ≡ true → list_any q (map f (remaining gone xs)) ≡ true
any_remaining f p q keeps [] [] long none some = absurd (cc some)
any_remaining f p q keeps [] (x ∷ xs) long none some = absurd (omega arith)
any_remaining f p q keeps (g ∷ gone) [] long none some = absurd (omega arith)
any_remaining f p q keeps (true ∷ gone) (x ∷ xs) long none some =
    let fails = none zero x refl refl in
    any_remaining f p q keeps gone xs (omega arith) (λ i y. none (suc i) y) (sym (ap (λ b. b || list_any p xs) fails) ∙ some)
any_remaining f p q keeps (false ∷ gone) (x ∷ xs) long none some = elim (either (p x) (list_any p xs) some) [
  | inl here ↦ or_first (q (f x)) (list_any q (map f (remaining gone xs))) (keeps x here)
  | inr later ↦ or_second (q (f x)) (list_any q (map f (remaining gone xs))) (any_remaining f p q keeps gone xs (omega arith) (λ i y. none (suc i) y) later)
]

-- ---- elements each of which is made another, or goes

all_put : {B : Type 0} (Q : B → Type 0) (o : Option B) (ys : List B) → ((y : B) → o ≡ Some y → Q y) → AllByRecursion Q ys → AllByRecursion Q (cons_option o ys)
all_put Q None ys h all = all
all_put Q (Some y) ys h all = (h y refl, all)

pub all_filter_map : {A B : Type 0} (h : A → Option B) (P : A → Type 0) (Q : B → Type 0) → ((x : A) (y : B) → h x ≡ Some y → P x → Q y) → (xs : List A) → AllByRecursion P xs → AllByRecursion Q (filter_map h xs)
all_filter_map h P Q made [] all = tt
all_filter_map h P Q made (x ∷ xs) all = all_put Q (h x) (filter_map h xs) (λ y is. made x y is all.0) (all_filter_map h P Q made xs all.1)

-- each pair, by recursion on the list
abbrev pub EachPair : {A : Type 0} → (A → A → Type 0) → List A → Type 0
EachPair R [] = ⊤
EachPair R (x ∷ xs) = AllByRecursion (R x) xs × EachPair R xs

pub all_pairs : {A : Type 0} (R : A → A → Type 0) (xs : List A) → EachPair R xs → AllPairs R xs
all_pairs R [] each = λ i j d lt within. absurd (omega arith)
all_pairs R (x ∷ xs) each = AllPairs-cons R x xs (All-from_recursion (R x) xs each.0) (all_pairs R xs each.1)

all_given : {A : Type 0} (P : A → Type 0) (xs : List A) → All P xs → AllByRecursion P xs
all_given P [] all = tt
all_given P (x ∷ xs) all = (all zero x (omega arith), all_given P xs (λ k d within. all (suc k) d (omega arith)))

pub each_pair : {A : Type 0} (R : A → A → Type 0) (xs : List A) → AllPairs R xs → EachPair R xs
each_pair R [] all = tt
each_pair R (x ∷ xs) all = (
  all_given (R x) xs (λ k d within. all zero (suc k) d (omega arith) (omega arith)),
  each_pair R xs (λ i j d lt within. all (suc i) (suc j) d (omega arith) (omega arith)),
)

pairs_put : {B : Type 0} (S : B → B → Type 0) (o : Option B) (ys : List B) → ((y : B) → o ≡ Some y → AllByRecursion (S y) ys) → EachPair S ys → EachPair S (cons_option o ys)
pairs_put S None ys h each = each
pairs_put S (Some y) ys h each = (h y refl, each)

pub pairs_filter_map : {A B : Type 0} (h : A → Option B) (R : A → A → Type 0) (S : B → B → Type 0) → ((x y : A) (u v : B) → h x ≡ Some u → h y ≡ Some v → R x y → S u v) → (xs : List A) → EachPair R xs → EachPair S (filter_map h xs)
pairs_filter_map h R S made [] each = tt
pairs_filter_map h R S made (x ∷ xs) each =
    pairs_put S (h x) (filter_map h xs)
    (λ u is. all_filter_map h (R x) (S u) (λ y v there r. made x y u v is there r) xs each.0)
    (pairs_filter_map h R S made xs each.1)

-- ---- elements each of which is made another

pub all_mapped : {A B : Type 0} (f : A → B) (P : A → Type 0) (Q : B → Type 0) → ((x : A) → P x → Q (f x)) → (xs : List A) → AllByRecursion P xs → AllByRecursion Q (map f xs)
all_mapped f P Q keeps [] all = tt
all_mapped f P Q keeps (x ∷ xs) all = (keeps x all.0, all_mapped f P Q keeps xs all.1)

pub pairs_mapped : {A B : Type 0} (f : A → B) (R : A → A → Type 0) (S : B → B → Type 0) → ((x y : A) → R x y → S (f x) (f y)) → (xs : List A) → EachPair R xs → EachPair S (map f xs)
pairs_mapped f R S keeps [] each = tt
pairs_mapped f R S keeps (x ∷ xs) each = (all_mapped f (R x) (S (f x)) (λ y r. keeps x y r) xs each.0, pairs_mapped f R S keeps xs each.1)

pub some_mapped : {A B : Type 0} (f : A → B) (P : A → Type 0) (Q : B → Type 0) → ((x : A) → P x → Q (f x)) → (xs : List A) (i : ℕ) → IsSomeAnd (slice_get xs i) P → IsSomeAnd (slice_get (map f xs) i) Q
some_mapped f P Q keeps [] i h = absurd h
some_mapped f P Q keeps (x ∷ xs) zero h = keeps x h
some_mapped f P Q keeps (x ∷ xs) (suc i) h = some_mapped f P Q keeps xs i h

pub any_mapped : {A B : Type 0} (f : A → B) (p : A → Bool) (q : B → Bool) → ((x : A) → q (f x) ≡ p x) → (xs : List A) → list_any q (map f xs) ≡ list_any p xs
any_mapped f p q same [] = refl
any_mapped f p q same (x ∷ xs) = rw (same x, any_mapped f p q same xs) refl

pub map-map : {A B C : Type 0} (f : A → B) (g : B → C) (h : A → C) → ((x : A) → g (f x) ≡ h x) → (xs : List A) → map g (map f xs) ≡ map h xs
map-map f g h same [] = refl
map-map f g h same (x ∷ xs) = rw (same x, map-map f g h same xs) refl

-- ---- an element at a place

pub some_at : {A : Type 0} (P : A → Type 0) (o : Option A) → IsSomeAnd o P → (x : A) × (o ≡ Some x) × P x
some_at P None h = absurd h
some_at P (Some x) h = (x, refl, h)

pub all_at : {A : Type 0} (P : A → Type 0) (xs : List A) (i : ℕ) (x : A) → AllByRecursion P xs → slice_get xs i ≡ Some x → P x
all_at P [] i x all is = absurd (cc is)
all_at P (y ∷ xs) zero x all is = subst P (some_same y x is) all.0
  where
    some_same : {A : Type 0} (y x : A) → Some y ≡ Some x → y ≡ x
    some_same y x is = cc is
all_at P (y ∷ xs) (suc i) x all is = all_at P xs i x all.1 is
