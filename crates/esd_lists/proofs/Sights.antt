-- Where items are seen.
use Rattle.std.proofs.Common.{◌≡◌, ℕ, zero, suc, ◌+◌, ◌<◌, Bool, true, false, ◌&&◌, ◌||◌, ◌==◌, cond, List, [], ◌∷◌, ◌++◌, length, slice_get, Option, Some, None, option_map, is_some, refl, sym, ◌∙◌, subst, arith, append_assoc, filter_map}
use Rattle.std.specs.List.{find, list_any, cons_option}
use Rattle.std.specs.Option.{option_or, option_and_then}
use Rattle.std.proofs.lemmas.List.Folds.{find-append}
use Rattle.std.proofs.lemmas.Bool.Decides.{nat_tests}
use Rattle.sym_mod.specs.declared.module.Item.{Item}
use Rattle.linking_model.specs.Kept.{Read, Sight, Symbol, symbol_eq, sights_in, sights_from, is_at, sight_at}
use Rattle.esd_lists.proofs.Firsts.{symbol_refl}

-- ---- finding

pub any_find : {A : Type 0} (p : A → Bool) (xs : List A) → list_any p xs ≡ is_some (find p xs)
any_find p [] = refl
any_find p (x ∷ xs) = chosen p x xs (p x) (any_find p xs)
  where
    chosen : {A : Type 0} (p : A → Bool) (x : A) (xs : List A) (b : Bool) → list_any p xs ≡ is_some (find p xs) → (b || list_any p xs) ≡ is_some (cond b (Some x) (find p xs))
    chosen p x xs true more = refl
    chosen p x xs false more = more

passes_chosen : {A : Type 0} (p : A → Bool) (x y : A) (o : Option A) (b : Bool) → p x ≡ b → cond b (Some x) o ≡ Some y → (o ≡ Some y → p y ≡ true) → p y ≡ true
passes_chosen {A = A} p x y o true e found more =
    let same : x ≡ y = cc in
    subst (λ (z : A). p z ≡ true) same e
passes_chosen {A = A} p x y o false e found more = more found

pub find_passes : {A : Type 0} (p : A → Bool) (xs : List A) (y : A) → find p xs ≡ Some y → p y ≡ true
find_passes p [] y found = absurd cc
find_passes p (x ∷ xs) y found = passes_chosen p x y (find p xs) (p x) refl found (find_passes p xs y)

or_true : (b : Bool) → (b || true) ≡ true
or_true true = refl
or_true false = refl

among_chosen : {A : Type 0} (q : A → Bool) (x y : A) (xs : List A) (o : Option A) (b : Bool) → cond b (Some x) o ≡ Some y → q y ≡ true → (o ≡ Some y → list_any q xs ≡ true) → (q x || list_any q xs) ≡ true
among_chosen {A = A} q x y xs o true found here more =
    let same : x ≡ y = cc in
    let first : q x ≡ true = subst (λ (z : A). q z ≡ true) (sym same) here in
    rw first refl
among_chosen {A = A} q x y xs o false found here more = rw (more found) (or_true (q x))

-- what is found is there
pub find_among : {A : Type 0} (p q : A → Bool) (xs : List A) (y : A) → find p xs ≡ Some y → q y ≡ true → list_any q xs ≡ true
find_among p q [] y found here = absurd cc
find_among p q (x ∷ xs) y found here = among_chosen q x y xs (find p xs) (p x) found here (λ f. find_among p q xs y f here)

mapped_here : {A : Type 0} (f : A → Option Symbol) (x : A) (xs : List A) (s : Symbol) → f x ≡ Some s → list_any (symbol_eq s) (cons_option (f x) (filter_map f xs)) ≡ true
mapped_here f x xs s e = rw (e, symbol_refl s) refl

mapped_later : {A : Type 0} (f : A → Option Symbol) (xs : List A) (s : Symbol) (o : Option Symbol) → list_any (symbol_eq s) (filter_map f xs) ≡ true → list_any (symbol_eq s) (cons_option o (filter_map f xs)) ≡ true
mapped_later f xs s None more = more
mapped_later f xs s (Some t) more = rw more (or_true (symbol_eq s t))

mapped_chosen : {A : Type 0} (f : A → Option Symbol) (x y : A) (xs : List A) (s : Symbol) (o : Option A) (b : Bool) → cond b (Some x) o ≡ Some y → f y ≡ Some s
    → (o ≡ Some y → list_any (symbol_eq s) (filter_map f xs) ≡ true) → list_any (symbol_eq s) (cons_option (f x) (filter_map f xs)) ≡ true
mapped_chosen {A = A} f x y xs s o true found e more =
    let same : x ≡ y = cc in
    mapped_here f x xs s (subst (λ (z : A). f z ≡ Some s) (sym same) e)
mapped_chosen {A = A} f x y xs s o false found e more = mapped_later f xs s (f x) (more found)

-- what is found is there as what it is mapped to
pub find_mapped : {A : Type 0} (p : A → Bool) (f : A → Option Symbol) (xs : List A) (y : A) (s : Symbol) → find p xs ≡ Some y → f y ≡ Some s → list_any (symbol_eq s) (filter_map f xs) ≡ true
find_mapped p f [] y s found e = absurd cc
find_mapped p f (x ∷ xs) y s found e = mapped_chosen f x y xs s (find p xs) (p x) found e (λ g. find_mapped p f xs y s g e)

-- ---- sights of several modules

pub sights_from-append : (m : ℕ) (xs ys : List Read) → sights_from m (xs ++ ys) ≡ sights_from m xs ++ sights_from (m + length xs) ys
sights_from-append m [] ys =
    let same : m + 0 ≡ m = omega arith in
    rw same refl
sights_from-append m (x ∷ xs) ys =
    let same : m + 1 + length xs ≡ m + length (x ∷ xs) = omega arith in
    let more : sights_from (m + 1) (xs ++ ys) ≡ sights_from (m + 1) xs ++ sights_from (m + length (x ∷ xs)) ys = rw same at (sights_from-append (m + 1) xs ys) in
    rw more (sym (append_assoc (sights_in m x.segment 0 x.module_.items) (sights_from (m + 1) xs) (sights_from (m + length (x ∷ xs)) ys)))

-- ---- the sight at a place

abbrev pub seen_at : ℕ → ℕ → ℕ → Item → Sight
seen_at m s i x = record { of_module = m; number = i; segment = s; item = x }

here_chosen : (m s k : ℕ) (x : Item) (o : Option Sight) → cond (m == m && k == k + 0) (Some (seen_at m s k x)) o ≡ Some (seen_at m s (k + 0) x)
here_chosen m s k x o =
    let same : k + 0 ≡ k = omega arith in
    let one : (m == m && k == k) ≡ true = grind (arith, nat_tests) in
    rw (same, one) refl

pub find_in : (m s k i : ℕ) (items : List Item) → find (is_at m (k + i)) (sights_in m s k items) ≡ option_map (λ x. seen_at m s (k + i) x) (slice_get items i)
find_in m s k i [] = refl
find_in m s k zero (x ∷ items) = here_chosen m s k x (find (is_at m (k + 0)) (sights_in m s (k + 1) items))
find_in m s k (suc i) (x ∷ items) =
    let not_here : (m == m && k == k + suc i) ≡ false = grind (arith, nat_tests) in
    let same : k + 1 + i ≡ k + suc i = omega arith in
    rw not_here (rw same at (find_in m s (k + 1) i items))

find_elsewhere : (m s k j i : ℕ) (items : List Item) → (m == j) ≡ false → find (is_at j i) (sights_in m s k items) ≡ None
find_elsewhere m s k j i [] other = refl
find_elsewhere m s k j i (x ∷ items) other = rw other (find_elsewhere m s (k + 1) j i items other)

find_below : (m j i : ℕ) (rs : List Read) → j < m → find (is_at j i) (sights_from m rs) ≡ None
find_below m j i [] low = refl
find_below m j i (r ∷ rs) low =
    let other : (m == j) ≡ false = grind (arith, nat_tests) in
    find-append (is_at j i) (sights_in m r.segment 0 r.module_.items) (sights_from (m + 1) rs)
    ∙ rw (find_elsewhere m r.segment 0 j i r.module_.items other) (find_below (m + 1) j i rs (omega arith))

or_none : {A : Type 0} (o : Option A) → option_or o None ≡ o
or_none None = refl
or_none (Some x) = refl

-- item i of a module, as it is seen
abbrev pub seen_of : ℕ → ℕ → Read → Option Sight
seen_of j i r = option_map (λ x. seen_at j r.segment i x) (slice_get r.module_.items i)

find_from : (m k i : ℕ) (rs : List Read) → find (is_at (m + k) i) (sights_from m rs) ≡ option_and_then (seen_of (m + k) i) (slice_get rs k)
find_from m k i [] = refl
find_from m zero i (r ∷ rs) =
    let same : m + 0 ≡ m = omega arith in
    let zero_i : 0 + i ≡ i = omega arith in
    let first : find (is_at m i) (sights_in m r.segment 0 r.module_.items) ≡ seen_of m i r = rw zero_i at (find_in m r.segment 0 i r.module_.items) in
    let later : find (is_at m i) (sights_from (m + 1) rs) ≡ None = find_below (m + 1) m i rs (omega arith) in
    let whole : find (is_at m i) (sights_from m (r ∷ rs)) ≡ seen_of m i r =
    find-append (is_at m i) (sights_in m r.segment 0 r.module_.items) (sights_from (m + 1) rs) ∙ rw (first, later) (or_none (seen_of m i r)) in
    rw same whole
find_from m (suc k) i (r ∷ rs) =
    let other : (m == m + suc k) ≡ false = grind (arith, nat_tests) in
    let same : m + 1 + k ≡ m + suc k = omega arith in
    let first : find (is_at (m + suc k) i) (sights_in m r.segment 0 r.module_.items) ≡ None = find_elsewhere m r.segment 0 (m + suc k) i r.module_.items other in
    let later : find (is_at (m + suc k) i) (sights_from (m + 1) rs) ≡ option_and_then (seen_of (m + suc k) i) (slice_get rs k) = rw same at (find_from (m + 1) k i rs) in
    find-append (is_at (m + suc k) i) (sights_in m r.segment 0 r.module_.items) (sights_from (m + 1) rs) ∙ rw (first, later) refl

pub sight_at_is : (rs : List Read) (k i : ℕ) → sight_at rs k i ≡ option_and_then (seen_of k i) (slice_get rs k)
sight_at_is rs k i =
    let same : 0 + k ≡ k = omega arith in
    rw same at (find_from 0 k i rs)
