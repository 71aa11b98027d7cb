-- What a list has.
use Rattle.std.proofs.Common.{◌≡◌, ℕ, zero, suc, Bool, true, false, cond, ◌||◌, List, [], ◌∷◌, ◌++◌, map, fold, Some, slice_get, ◌⊎◌, inl, inr, if◌then◌else◌, refl, sym, ap, subst, ◌∙◌}
use Rattle.std.specs.List.{list_any, filter, AllByRecursion}
use Rattle.load_recs.specs.declared.items.RldItem.{RldItem}
use Rattle.linking_model.specs.Names.{with_first, firsts}
use Rattle.member_model.specs.Symbols.{same_field}
use Rattle.mod_read.specs.Judged.{Pairs}
use Rattle.mod_read.proofs.JudgedSymbols.{all_more}

-- x is in the list
abbrev pub Has : {X : Type 0} → List X → X → Type 0
Has [] x = ⊥
Has (y ∷ ys) x = (y ≡ x) ⊎ Has ys x

pub has_each : {X : Type 0} (P : X → Type 0) (xs : List X) (x : X) → AllByRecursion P xs → Has xs x → P x
has_each P [] x all there = absurd there
has_each P (y ∷ ys) x all there = elim there [ inl e ↦ subst P e all.0 | inr later ↦ has_each P ys x all.1 later ]

pub each_of : {X : Type 0} (P : X → Type 0) (xs : List X) → ((x : X) → Has xs x → P x) → AllByRecursion P xs
each_of P [] holds = tt
each_of P (y ∷ ys) holds = (holds y (inl refl), each_of P ys (λ x there. holds x (inr there)))

pub has_at : {X : Type 0} (xs : List X) (k : ℕ) (x : X) → slice_get xs k ≡ Some x → Has xs x
has_at [] k x there = absurd cc
has_at (y ∷ ys) zero x there = inl (let e : y ≡ x = cc in e)
has_at (y ∷ ys) (suc k) x there = inr (has_at ys k x there)

pub each_map : {X Y : Type 0} (P : Y → Type 0) (f : X → Y) (xs : List X) → AllByRecursion (λ x. P (f x)) xs → AllByRecursion P (map f xs)
each_map P f [] all = tt
each_map P f (x ∷ xs) all = (all.0, each_map P f xs all.1)

pub any_at : {X : Type 0} (p : X → Bool) (xs : List X) (k : ℕ) (x : X) → slice_get xs k ≡ Some x → p x ≡ true → list_any p xs ≡ true
any_at p [] k x there passes = cc
any_at p (y ∷ ys) zero x there passes =
    let e : p y ≡ true = ap p (let same : y ≡ x = cc there in same) ∙ passes in
    ap (λ b. b || list_any p ys) e
any_at p (y ∷ ys) (suc k) x there passes = later (p y) (list_any p ys) (any_at p ys k x there passes)
  where
    later : (a b : Bool) → b ≡ true → (a || b) ≡ true
    later true b h = refl
    later false b h = h

-- ---- what passes

filter_each_step : {X : Type 0} (P : X → Type 0) (b : Bool) (y : X) (rest : List X) → (b ≡ true → P y) → AllByRecursion P rest → AllByRecursion P (cond b (y ∷ rest) rest)
filter_each_step P true y rest first later = (first refl, later)
filter_each_step P false y rest first later = later

-- each element that passes has what each has that passes
pub filter_each : {X : Type 0} (P : X → Type 0) (p : X → Bool) (xs : List X) → AllByRecursion (λ x. p x ≡ true → P x) xs → AllByRecursion P (filter p xs)
filter_each P p [] all = tt
filter_each P p (x ∷ xs) all = filter_each_step P (p x) x (filter p xs) all.0 (filter_each P p xs all.1)

pub filter_passes : {X : Type 0} (p : X → Bool) (xs : List X) → AllByRecursion (λ x. p x ≡ true) (filter p xs)
filter_passes p xs = filter_each (λ x. p x ≡ true) p xs (each_of (λ x. p x ≡ true → p x ≡ true) xs (λ x there passes. passes))

has_filter_step : {X : Type 0} (b : Bool) (y x : X) (rest : List X) → (b ≡ true → (y ≡ x) ⊎ Has rest x) → (b ≡ false → Has rest x) → Has (cond b (y ∷ rest) rest) x
has_filter_step true y x rest h i = h refl
has_filter_step false y x rest h i = i refl

pub has_filter : {X : Type 0} (p : X → Bool) (xs : List X) (x : X) → Has xs x → p x ≡ true → Has (filter p xs) x
has_filter p [] x there passes = absurd there
has_filter p (z ∷ zs) x there passes =
    has_filter_step (p z) z x (filter p zs)
    (λ e. elim there [ inl s ↦ inl s | inr later ↦ inr (has_filter p zs x later passes) ])
    (λ e. elim there [ inl s ↦ absurd (differ (sym e ∙ ap p s ∙ passes)) | inr later ↦ has_filter p zs x later passes ])
  where
    differ : false ≡ true → ⊥
    differ e = cc

pairs_filter_step : {X : Type 0} (R : X → X → Type 0) (b : Bool) (x : X) (rest : List X) → AllByRecursion (R x) rest → Pairs R rest → Pairs R (cond b (x ∷ rest) rest)
pairs_filter_step R true x rest all pairs = (all, pairs)
pairs_filter_step R false x rest all pairs = pairs

pub pairs_filter : {X : Type 0} (R : X → X → Type 0) (p : X → Bool) (xs : List X) → Pairs R xs → Pairs R (filter p xs)
pairs_filter R p [] all = tt
pairs_filter R p (x ∷ xs) all =
    pairs_filter_step R (p x) x (filter p xs) (filter_each (R x) p xs (each_of (λ y. p y ≡ true → R x y) xs (λ y there passes. has_each (R x) xs y all.0 there)))
    (pairs_filter R p xs all.1)

pub pairs_either : {X : Type 0} (R : X → X → Type 0) (xs : List X) (x y : X) → Pairs R xs → Has xs x → Has xs y → (R x y ⊎ R y x) ⊎ (x ≡ y)
pairs_either R [] x y pairs a b = absurd a
pairs_either R (z ∷ zs) x y pairs a b =
    elim a [
      | inl e ↦ elim b [
        | inl f ↦ inr (sym e ∙ f)
        | inr g ↦ inl (inl (subst (λ w. R w y) e (has_each (R z) zs y pairs.0 g)))
      ]
      | inr c ↦ elim b [
        | inl f ↦ inl (inr (subst (λ w. R w x) f (has_each (R z) zs x pairs.0 c)))
        | inr g ↦ pairs_either R zs x y pairs.1 c g
      ]
    ]

-- ---- the first of each field

put_each : (P : RldItem → Type 0) (b : Bool) (ys : List RldItem) (x : RldItem) → AllByRecursion P ys → P x → AllByRecursion P (if b then ys else ys ++ x ∷ [])
put_each P true ys x all one = all
put_each P false ys x all one = all_more P ys (x ∷ []) all (one, tt)

fold_each : (P : RldItem → Type 0) (ys xs : List RldItem) → AllByRecursion P ys → AllByRecursion P xs → AllByRecursion P (fold (with_first same_field) ys xs)
fold_each P ys [] all more = all
fold_each P ys (x ∷ xs) all more = fold_each P (with_first same_field ys x) xs (put_each P (list_any (same_field x) ys) ys x all more.0) more.1

pub firsts_each : (P : RldItem → Type 0) (xs : List RldItem) → AllByRecursion P xs → AllByRecursion P (firsts same_field xs)
firsts_each P xs all = fold_each P [] xs tt all
