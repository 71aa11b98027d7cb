-- What holds of each element and of each pair, and sums and folds over lists of lists.
use Rattle.std.proofs.Common.{arith, ◌≡◌, ◌⊎◌, inl, inr, ℕ, zero, suc, ◌+◌, ◌<◌, ◌≤◌, Bool, true, false, cond, if◌then◌else◌, List, [], ◌∷◌, ◌++◌, map, filter, find, fold, flat_map, sum_by, All, AllPairs, refl, sym, ◌∙◌, ap, subst, zero-add, add-zero, Some, None}
use Rattle.std.specs.Option.{option_map}
use Rattle.std.specs.List.{AllByRecursion as Each, range_with_len}
use Rattle.std.proofs.lemmas.Bool.{cond_both}
use Rattle.std.proofs.lemmas.Option.{none-some, same_Some}
use Rattle.std.proofs.lemmas.List.Sums.{sum_by-cons, sum_by-append, fold-append}
use Rattle.linking_model.specs.Names.{in_order, inserted}

-- ---- each element

pub each_from_all : {X : Type 0} (P : X → Type 0) (xs : List X) → All P xs → Each P xs
each_from_all P [] all = tt
each_from_all P (x ∷ xs) all = (all 0 x (omega arith), each_from_all P xs (λ k d within. all (suc k) d (omega (arith, within))))

pub each_always : {X : Type 0} (P : X → Type 0) (xs : List X) → ((x : X) → P x) → Each P xs
each_always P [] holds = tt
each_always P (x ∷ xs) holds = (holds x, each_always P xs holds)

pub each_weaker : {X : Type 0} (P Q : X → Type 0) (xs : List X) → ((x : X) → P x → Q x) → Each P xs → Each Q xs
each_weaker P Q [] weaker all = tt
each_weaker P Q (x ∷ xs) weaker all = (weaker x all.0, each_weaker P Q xs weaker all.1)

pub each_both : {X : Type 0} (P Q : X → Type 0) (xs : List X) → Each P xs → Each Q xs → Each (λ x. P x × Q x) xs
each_both P Q [] first second = tt
each_both P Q (x ∷ xs) first second = ((first.0, second.0), each_both P Q xs first.1 second.1)

pub each_append : {X : Type 0} (P : X → Type 0) (xs ys : List X) → Each P xs → Each P ys → Each P (xs ++ ys)
each_append P [] ys first later = later
each_append P (x ∷ xs) ys first later = (first.0, each_append P xs ys first.1 later)

pub each_in_front : {X : Type 0} (P : X → Type 0) (xs ys : List X) → Each P (xs ++ ys) → Each P xs
each_in_front P [] ys all = tt
each_in_front P (x ∷ xs) ys all = (all.0, each_in_front P xs ys all.1)

pub each_behind : {X : Type 0} (P : X → Type 0) (xs ys : List X) → Each P (xs ++ ys) → Each P ys
each_behind P [] ys all = all
each_behind P (x ∷ xs) ys all = each_behind P xs ys all.1

pub each_map : {X Y : Type 0} (P : Y → Type 0) (f : X → Y) (xs : List X) → Each (λ x. P (f x)) xs → Each P (map f xs)
each_map P f [] all = tt
each_map P f (x ∷ xs) all = (all.0, each_map P f xs all.1)

pub each_flat_map : {X Y : Type 0} (P : Y → Type 0) (f : X → List Y) (xs : List X) → Each (λ x. Each P (f x)) xs → Each P (flat_map f xs)
each_flat_map P f [] all = tt
each_flat_map P f (x ∷ xs) all = each_append P (f x) (flat_map f xs) all.0 (each_flat_map P f xs all.1)

pub each_of_flat : {X Y : Type 0} (P : Y → Type 0) (f : X → List Y) (xs : List X) → Each P (flat_map f xs) → Each (λ x. Each P (f x)) xs
each_of_flat P f [] all = tt
each_of_flat P f (x ∷ xs) all =
    (each_in_front P (f x) (flat_map f xs) all, each_of_flat P f xs (each_behind P (f x) (flat_map f xs) all))

pub each_filter : {X : Type 0} (P : X → Type 0) (p : X → Bool) (xs : List X) → Each (λ x. p x ≡ true → P x) xs → Each P (filter p xs)
each_filter P p [] all = tt
each_filter P p (x ∷ xs) all =
    cond_both (p x) (x ∷ filter p xs) (filter p xs) (Each P)
    (λ passes. (all.0 passes, each_filter P p xs all.1)) (λ fails. each_filter P p xs all.1)

pub each_inserted : {X : Type 0} (P : X → Type 0) (before : X → X → Bool) (x : X) (xs : List X) → P x → Each P xs → Each P (inserted before x xs)
each_inserted P before x [] first all = (first, tt)
each_inserted P before x (y ∷ ys) first all =
    cond_both (before y x) (y ∷ inserted before x ys) (x ∷ y ∷ ys) (Each P)
    (λ later. (all.0, each_inserted P before x ys first all.1)) (λ here. (first, all))

pub each_in_order : {X : Type 0} (P : X → Type 0) (before : X → X → Bool) (xs : List X) → Each P xs → Each P (in_order before xs)
each_in_order P before [] all = tt
each_in_order P before (x ∷ xs) all = each_inserted P before x (in_order before xs) all.0 (each_in_order P before xs all.1)

pub each_place : (R : ℕ → Type 0) (a n : ℕ) → ((i : ℕ) → a ≤ i → i < a + n → R i) → Each R (range_with_len a n)
each_place R a zero holds = tt
each_place R a (suc n) holds =
    (holds a (omega arith) (omega arith), each_place R (a + 1) n (λ i low high. holds i (omega (arith, low)) (omega (arith, high))))

-- ---- one of the elements

-- x is one of them
abbrev pub Among : {X : Type 0} → X → List X → Type 0
Among x [] = ⊥
Among x (y ∷ ys) = (y ≡ x) ⊎ Among x ys

pub at_one : {X : Type 0} (P : X → Type 0) (x : X) (xs : List X) → Each P xs → Among x xs → P x
at_one P x [] all among = absurd among
at_one P x (y ∷ ys) all (inl same) = subst P same all.0
at_one P x (y ∷ ys) all (inr later) = at_one P x ys all.1 later

pub among_front : {X : Type 0} (x : X) (xs ys : List X) → Among x xs → Among x (xs ++ ys)
among_front x [] ys among = absurd among
among_front x (z ∷ xs) ys (inl same) = inl same
among_front x (z ∷ xs) ys (inr later) = inr (among_front x xs ys later)

pub among_behind : {X : Type 0} (x : X) (xs ys : List X) → Among x ys → Among x (xs ++ ys)
among_behind x [] ys among = among
among_behind x (z ∷ xs) ys among = inr (among_behind x xs ys among)

pub among_map : {X Y : Type 0} (f : X → Y) (x : X) (xs : List X) → Among x xs → Among (f x) (map f xs)
among_map f x [] among = absurd among
among_map f x (y ∷ ys) (inl same) = inl (ap f same)
among_map f x (y ∷ ys) (inr later) = inr (among_map f x ys later)

pub among_flat : {X Y : Type 0} (f : X → List Y) (x : X) (y : Y) (xs : List X) → Among x xs → Among y (f x) → Among y (flat_map f xs)
among_flat f x y [] among inside = absurd among
among_flat f x y (z ∷ xs) (inl same) inside = among_front y (f z) (flat_map f xs) (subst (λ w. Among y (f w)) (sym same) inside)
among_flat f x y (z ∷ xs) (inr later) inside = among_behind y (f z) (flat_map f xs) (among_flat f x y xs later inside)

pub among_filter : {X : Type 0} (p : X → Bool) (x : X) (xs : List X) → p x ≡ true → Among x xs → Among x (filter p xs)
among_filter p x [] passes among = absurd among
among_filter p x (y ∷ ys) passes (inl same) =
    subst (λ b. Among x (cond b (y ∷ filter p ys) (filter p ys))) (sym (ap p same ∙ passes)) (inl same)
among_filter p x (y ∷ ys) passes (inr later) =
    cond_both (p y) (y ∷ filter p ys) (filter p ys) (Among x)
    (λ first. inr (among_filter p x ys passes later)) (λ not_first. among_filter p x ys passes later)

-- ---- what a search finds

pub found_passes : {X : Type 0} (p : X → Bool) (x : X) (xs : List X) → find p xs ≡ Some x → p x ≡ true
found_passes p x [] found = absurd (none-some x found)
found_passes p x (y ∷ ys) found = by_cases (p y) refl found (found_passes p x ys)
  where
    by_cases : (b : Bool) → p y ≡ b → cond b (Some y) (find p ys) ≡ Some x → (find p ys ≡ Some x → p x ≡ true) → p x ≡ true
    by_cases true first front later = ap p (sym (same_Some y x front)) ∙ first
    by_cases false first front later = later front

pub found_among : {X : Type 0} (p : X → Bool) (x : X) (xs : List X) → find p xs ≡ Some x → Among x xs
found_among p x [] found = absurd (none-some x found)
found_among p x (y ∷ ys) found = by_cases (p y) found (found_among p x ys)
  where
    by_cases : (b : Bool) → cond b (Some y) (find p ys) ≡ Some x → (find p ys ≡ Some x → Among x ys) → (y ≡ x) ⊎ Among x ys
    by_cases true front later = inl (same_Some y x front)
    by_cases false front later = inr (later front)

pub not_found : {X : Type 0} (p : X → Bool) (xs : List X) → find p xs ≡ None → Each (λ x. p x ≡ false) xs
not_found p [] none = tt
not_found p (y ∷ ys) none = by_cases (p y) refl none (not_found p ys)
  where
    by_cases : (b : Bool) → p y ≡ b → cond b (Some y) (find p ys) ≡ None → (find p ys ≡ None → Each (λ x. p x ≡ false) ys)
        → (p y ≡ false) × Each (λ x. p x ≡ false) ys
    by_cases true first front later = absurd (none-some y (sym front))
    by_cases false first front later = (first, later front)

pub none_found : {X : Type 0} (p : X → Bool) (xs : List X) → Each (λ x. p x ≡ false) xs → find p xs ≡ None
none_found p [] none = refl
none_found p (y ∷ ys) none = ap (λ b. cond b (Some y) (find p ys)) none.0 ∙ none_found p ys none.1

pub find_map : {X Y : Type 0} (p : Y → Bool) (f : X → Y) (xs : List X) → find p (map f xs) ≡ option_map f (find (λ x. p (f x)) xs)
find_map p f [] = refl
find_map p f (x ∷ xs) =
    elim (p (f x)) as (λ b. cond b (Some (f x)) (find p (map f xs)) ≡ option_map f (cond b (Some x) (find (λ y. p (f y)) xs))) [
      | true ↦ refl
      | false ↦ find_map p f xs
    ]

-- ---- pairs

-- each element with each later one
abbrev pub Pairs : {X : Type 0} → (X → X → Type 0) → List X → Type 0
Pairs R [] = Unit {0}
Pairs R (x ∷ xs) = Each (R x) xs × Pairs R xs

pub pairs_from_all : {X : Type 0} (R : X → X → Type 0) (xs : List X) → AllPairs R xs → Pairs R xs
pairs_from_all R [] all = tt
pairs_from_all R (x ∷ xs) all = (
  each_from_all (R x) xs (λ k d within. all 0 (suc k) d (omega arith) (omega (arith, within))),
  pairs_from_all R xs (λ i j d before within. all (suc i) (suc j) d (omega (arith, before)) (omega (arith, within))),
)

pub pairs_append : {X : Type 0} (R : X → X → Type 0) (xs ys : List X) → Pairs R xs → Pairs R ys → Each (λ x. Each (R x) ys) xs
    → Pairs R (xs ++ ys)
pairs_append R [] ys first later across = later
pairs_append R (x ∷ xs) ys first later across =
    (each_append (R x) xs ys first.0 across.0, pairs_append R xs ys first.1 later across.1)

pub pairs_weaker : {X : Type 0} (R S : X → X → Type 0) (xs : List X) → ((x y : X) → R x y → S x y) → Pairs R xs → Pairs S xs
pairs_weaker R S [] weaker pairs = tt
pairs_weaker R S (x ∷ xs) weaker pairs =
    (each_weaker (R x) (S x) xs (λ y. weaker x y) pairs.0, pairs_weaker R S xs weaker pairs.1)

pub pairs_map : {X Y : Type 0} (R : Y → Y → Type 0) (f : X → Y) (xs : List X) → Pairs (λ x y. R (f x) (f y)) xs → Pairs R (map f xs)
pairs_map R f [] pairs = tt
pairs_map R f (x ∷ xs) pairs = (each_map (R (f x)) f xs pairs.0, pairs_map R f xs pairs.1)

pub pairs_filter : {X : Type 0} (R : X → X → Type 0) (p : X → Bool) (xs : List X)
    → Pairs (λ x y. p x ≡ true → p y ≡ true → R x y) xs → Pairs R (filter p xs)
pairs_filter R p [] pairs = tt
pairs_filter R p (x ∷ xs) pairs =
    cond_both (p x) (x ∷ filter p xs) (filter p xs) (Pairs R)
    (λ passes. (
      each_filter (R x) p xs (each_weaker (λ y. p x ≡ true → p y ≡ true → R x y) _ xs (λ y holds. holds passes) pairs.0),
      pairs_filter R p xs pairs.1,
    ))
    (λ fails. pairs_filter R p xs pairs.1)

-- with what holds of each
pub pairs_of_each : {X : Type 0} (R : X → X → Type 0) (P : X → Type 0) (xs : List X) → Pairs R xs → Each P xs
    → Pairs (λ x y. P x × P y × R x y) xs
pairs_of_each R P [] pairs all = tt
pairs_of_each R P (x ∷ xs) pairs all = (
  each_weaker (λ y. P y × R x y) (λ y. P x × P y × R x y) xs (λ y both. (all.0, both.0, both.1)) (each_both P (R x) xs all.1 pairs.0),
  pairs_of_each R P xs pairs.1 all.1,
)

pub pairs_of_places : (R : ℕ → ℕ → Type 0) (a n : ℕ) → ((i j : ℕ) → a ≤ i → i < j → j < a + n → R i j) → Pairs R (range_with_len a n)
pairs_of_places R a zero holds = tt
pairs_of_places R a (suc n) holds = (
  each_place (R a) (a + 1) n (λ j low high. holds a j (omega arith) (omega (arith, low)) (omega (arith, high))),
  pairs_of_places R (a + 1) n (λ i j low before high. holds i j (omega (arith, low)) before (omega (arith, high))),
)

-- of each element holds what holds of one of them, and of any that stands beside that one
pub each_beside : {X : Type 0} (R : X → X → Type 0) (Q : X → Type 0) (x : X) (xs : List X) → Pairs R xs → Among x xs
    → Q x → ((y : X) → R x y → Q y) → ((y : X) → R y x → Q y) → Each Q xs
each_beside R Q x [] pairs among own after before = tt
each_beside R Q x (y ∷ ys) pairs (inl same) own after before =
    (subst Q (sym same) own, each_weaker (R y) Q ys (λ z apart. after z (subst (λ w. R w z) same apart)) pairs.0)
each_beside R Q x (y ∷ ys) pairs (inr later) own after before =
    (before y (at_one (R y) x ys pairs.0 later), each_beside R Q x ys pairs.1 later own after before)

-- a search finds what alone passes
pub find_alone : {X : Type 0} (R : X → X → Type 0) (p : X → Bool) (x : X) (xs : List X) → Pairs R xs → Among x xs → p x ≡ true
    → ((y : X) → R y x → p y ≡ false) → find p xs ≡ Some x
find_alone R p x [] pairs among passes before = absurd among
find_alone R p x (y ∷ ys) pairs (inl same) passes before =
    ap (λ b. cond b (Some y) (find p ys)) (ap p same ∙ passes) ∙ ap (λ z. Some z) same
find_alone R p x (y ∷ ys) pairs (inr later) passes before =
    ap (λ b. cond b (Some y) (find p ys)) (before y (at_one (R y) x ys pairs.0 later)) ∙ find_alone R p x ys pairs.1 later passes before

-- ---- sums

-- what counts only where a test passes
pub if_is : (b : Bool) (v : ℕ) → b ≡ true → (if b then v else 0) ≡ v
if_is true v is = refl
if_is false v is = cc

pub if_not : (b : Bool) (v : ℕ) → b ≡ false → (if b then v else 0) ≡ 0
if_not true v is = cc
if_not false v is = refl

pub if_none : (b : Bool) (v : ℕ) → (b ≡ true → v ≡ 0) → (if b then v else 0) ≡ 0
if_none true v none = none refl
if_none false v none = refl

pub sum_same : {X : Type 0} (f g : X → ℕ) (xs : List X) → Each (λ x. f x ≡ g x) xs → sum_by f xs ≡ sum_by g xs
sum_same f g [] same = refl
sum_same f g (x ∷ xs) same =
    sum_by-cons f x xs ∙ (ap (λ n. n + sum_by f xs) same.0 ∙ (ap (λ n. g x + n) (sum_same f g xs same.1) ∙ sym (sum_by-cons g x xs)))

pub sum_none : {X : Type 0} (f : X → ℕ) (xs : List X) → Each (λ x. f x ≡ 0) xs → sum_by f xs ≡ 0
sum_none f [] none = refl
sum_none f (x ∷ xs) none =
    sum_by-cons f x xs ∙ (ap (λ n. n + sum_by f xs) none.0 ∙ (zero-add (sum_by f xs) ∙ sum_none f xs none.1))

pub sum_filter : {X : Type 0} (f : X → ℕ) (p : X → Bool) (xs : List X) → sum_by f (filter p xs) ≡ sum_by (λ x. if p x then f x else 0) xs
sum_filter f p [] = refl
sum_filter f p (x ∷ xs) =
    elim (p x) as (λ b. sum_by f (cond b (x ∷ filter p xs) (filter p xs)) ≡ (if b then f x else 0) + sum_by (λ y. if p y then f y else 0) xs) [
      | true ↦ sum_by-cons f x (filter p xs) ∙ ap (λ n. f x + n) (sum_filter f p xs)
      | false ↦ sum_filter f p xs ∙ sym (zero-add (sum_by (λ y. if p y then f y else 0) xs))
    ]
    ∙ sym (sum_by-cons (λ y. if p y then f y else 0) x xs)

pub sum_map : {X Y : Type 0} (f : Y → ℕ) (g : X → Y) (xs : List X) → sum_by f (map g xs) ≡ sum_by (λ x. f (g x)) xs
sum_map f g [] = refl
sum_map f g (x ∷ xs) =
    sum_by-cons f (g x) (map g xs) ∙ (ap (λ n. f (g x) + n) (sum_map f g xs) ∙ sym (sum_by-cons (λ y. f (g y)) x xs))

pub sum_flat_map : {X Y : Type 0} (f : Y → ℕ) (g : X → List Y) (xs : List X) → sum_by f (flat_map g xs) ≡ sum_by (λ x. sum_by f (g x)) xs
sum_flat_map f g [] = refl
sum_flat_map f g (x ∷ xs) =
    sum_by-append f (g x) (flat_map g xs)
    ∙ (ap (λ n. sum_by f (g x) + n) (sum_flat_map f g xs) ∙ sym (sum_by-cons (λ y. sum_by f (g y)) x xs))

sum_inserted : {X : Type 0} (f : X → ℕ) (before : X → X → Bool) (x : X) (xs : List X) → sum_by f (inserted before x xs) ≡ f x + sum_by f xs
sum_inserted f before x [] = sum_by-cons f x []
sum_inserted f before x (y ∷ ys) =
    cond_both (before y x) (y ∷ inserted before x ys) (x ∷ y ∷ ys) (λ zs. sum_by f zs ≡ f x + sum_by f (y ∷ ys))
    (λ later.
    sum_by-cons f y (inserted before x ys)
    ∙ (ap (λ n. f y + n) (sum_inserted f before x ys)
    ∙ (turned (f y) (f x) (sum_by f ys) ∙ ap (λ n. f x + n) (sym (sum_by-cons f y ys)))))
    (λ here. sum_by-cons f x (y ∷ ys))
  where
    turned : (a b c : ℕ) → a + (b + c) ≡ b + (a + c)
    turned a b c = omega arith

pub sum_in_order : {X : Type 0} (f : X → ℕ) (before : X → X → Bool) (xs : List X) → sum_by f (in_order before xs) ≡ sum_by f xs
sum_in_order f before [] = refl
sum_in_order f before (x ∷ xs) =
    sum_inserted f before x (in_order before xs) ∙ (ap (λ n. f x + n) (sum_in_order f before xs) ∙ sym (sum_by-cons f x xs))

sum_two : {X : Type 0} (f g : X → ℕ) (xs : List X) → sum_by f xs + sum_by g xs ≡ sum_by (λ x. f x + g x) xs
sum_two f g [] = refl
sum_two f g (x ∷ xs) =
    ap (λ n. n + sum_by g (x ∷ xs)) (sum_by-cons f x xs)
    ∙ (ap (λ n. (f x + sum_by f xs) + n) (sum_by-cons g x xs)
    ∙ (regroup (f x) (g x) (sum_by f xs) (sum_by g xs)
    ∙ (ap (λ n. (f x + g x) + n) (sum_two f g xs) ∙ sym (sum_by-cons (λ y. f y + g y) x xs))))
  where
    regroup : (a b c d : ℕ) → (a + c) + (b + d) ≡ (a + b) + (c + d)
    regroup a b c d = omega arith

pub sum_swap : {X Y : Type 0} (h : X → Y → ℕ) (xs : List X) (ys : List Y)
    → sum_by (λ x. sum_by (h x) ys) xs ≡ sum_by (λ y. sum_by (λ x. h x y) xs) ys
sum_swap h [] ys = sym (sum_none (λ y. 0) ys (each_always (λ y. 0 ≡ 0) ys (λ y. refl)))
sum_swap h (x ∷ xs) ys =
    sum_by-cons (λ z. sum_by (h z) ys) x xs
    ∙ (ap (λ n. sum_by (h x) ys + n) (sum_swap h xs ys)
    ∙ (sum_two (h x) (λ y. sum_by (λ z. h z y) xs) ys
    ∙ sum_same (λ y. h x y + sum_by (λ z. h z y) xs) (λ y. sum_by (λ z. h z y) (x ∷ xs)) ys
    (each_always _ ys (λ y. sym (sum_by-cons (λ z. h z y) x xs)))))

-- of a sum to which all others add nothing
pub sum_beside : {X : Type 0} (R : X → X → Type 0) (g : X → ℕ) (x : X) (xs : List X) → Pairs R xs → Among x xs
    → ((y : X) → R x y → g y ≡ 0) → ((y : X) → R y x → g y ≡ 0) → sum_by g xs ≡ g x
sum_beside R g x [] pairs among after before = absurd among
sum_beside R g x (y ∷ ys) pairs (inl same) after before =
    sum_by-cons g y ys
    ∙ (ap (λ n. g y + n) (sum_none g ys (each_weaker (R y) (λ z. g z ≡ 0) ys (λ z apart. after z (subst (λ w. R w z) same apart)) pairs.0))
    ∙ (add-zero (g y) ∙ ap g same))
sum_beside R g x (y ∷ ys) pairs (inr later) after before =
    sum_by-cons g y ys
    ∙ (ap (λ n. n + sum_by g ys) (before y (at_one (R y) x ys pairs.0 later))
    ∙ (zero-add (sum_by g ys) ∙ sum_beside R g x ys pairs.1 later after before))

-- ---- folds

pub fold_filter : {X Y : Type 0} (f : Y → X → Y) (p : X → Bool) (y : Y) (xs : List X)
    → fold (λ z x. if p x then f z x else z) y xs ≡ fold f y (filter p xs)
fold_filter f p y [] = refl
fold_filter f p y (x ∷ xs) =
    elim (p x) as (λ b. fold (λ z w. if p w then f z w else z) (if b then f y x else y) xs ≡ fold f y (cond b (x ∷ filter p xs) (filter p xs))) [
      | true ↦ fold_filter f p (f y x) xs
      | false ↦ fold_filter f p y xs
    ]

pub fold_map : {X Y Z : Type 0} (f : Z → Y → Z) (g : X → Y) (z : Z) (xs : List X) → fold f z (map g xs) ≡ fold (λ w x. f w (g x)) z xs
fold_map f g z [] = refl
fold_map f g z (x ∷ xs) = fold_map f g (f z (g x)) xs

pub fold_flat_map : {X Y Z : Type 0} (f : Z → Y → Z) (g : X → List Y) (z : Z) (xs : List X)
    → fold f z (flat_map g xs) ≡ fold (λ w x. fold f w (g x)) z xs
fold_flat_map f g z [] = refl
fold_flat_map f g z (x ∷ xs) = fold-append f z (g x) (flat_map g xs) ∙ fold_flat_map f g (fold f z (g x)) xs
