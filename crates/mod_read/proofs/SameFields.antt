-- The relocation items that stand first at their fields.
use Rattle.std.proofs.Common.{arith, ◌≡◌, ℕ, zero, suc, ◌<◌, Bool, true, false, ◌&&◌, ◌||◌, ◌==◌, cond, if◌then◌else◌, List, [], ◌∷◌, ◌++◌, length, fold, get_or, refl, sym, ◌∙◌, ap}
use Rattle.std.specs.List.{list_any, filter, AllPairs}
use Rattle.std.proofs.lemmas.List.Folds.{list_any-append}
use Rattle.std.proofs.lemmas.List.Sums.{fold-append}
use Rattle.std.proofs.lemmas.List.Quantifiers.{all_pairs_push}
use Rattle.load_recs.specs.declared.items.RldItem.{RldItem}
use Rattle.linking_model.specs.Names.{with_first, firsts}
use Rattle.member_model.specs.Symbols.{same_field}

-- ---- tests on a list

pub or_left : (a b : Bool) → (a || b) ≡ false → a ≡ false
or_left true b none = none
or_left false b none = refl

pub or_right : (a b : Bool) → (a || b) ≡ false → b ≡ false
or_right true b none = cc
or_right false b none = none

or_true : (b : Bool) → (b || true) ≡ true
or_true true = refl
or_true false = refl

or_false : (b : Bool) → (b || false) ≡ b
or_false true = refl
or_false false = refl

or_assoc : (a b c : Bool) → ((a || b) || c) ≡ (a || (b || c))
or_assoc true b c = refl
or_assoc false b c = refl

pub none_at : {X : Type 0} (p : X → Bool) (xs : List X) (k : ℕ) (d : X) → list_any p xs ≡ false → k < length xs → p (get_or xs k d) ≡ false
none_at p [] k d none within = absurd (omega (arith, within))
none_at p (x ∷ xs) zero d none within = or_left (p x) (list_any p xs) none
none_at p (x ∷ xs) (suc k) d none within = none_at p xs k d (or_right (p x) (list_any p xs) none) (omega (arith, within))

filter_step : {X : Type 0} (b : Bool) (x : X) (xs : List X) → b ≡ false → xs ≡ [] → cond b (x ∷ xs) xs ≡ []
filter_step true x xs fails none = cc
filter_step false x xs fails none = none

pub filter_none : {X : Type 0} (p : X → Bool) (xs : List X) → list_any p xs ≡ false → filter p xs ≡ []
filter_none p [] none = refl
filter_none p (x ∷ xs) none =
    filter_step (p x) x (filter p xs) (or_left (p x) (list_any p xs) none) (filter_none p xs (or_right (p x) (list_any p xs) none))

-- ---- fields

pub same_section : (f g : RldItem) → same_field f g ≡ true → f.p ≡ g.p
same_section f g same = grind (arith, same)

pub same_address : (f g : RldItem) → same_field f g ≡ true → f.address ≡ g.address
same_address f g same = grind (arith, same)

pub same_refl : (f : RldItem) → same_field f f ≡ true
same_refl f = grind arith

pub same_sym : (f g : RldItem) → same_field f g ≡ same_field g f
same_sym f g = grind arith

pub same_trans : (f t g : RldItem) → same_field f t ≡ true → same_field f g ≡ same_field t g
same_trans f t g same =
    ap (λ p. p == g.p && f.address == g.address) (same_section f t same)
    ∙ ap (λ a. t.p == g.p && a == g.address) (same_address f t same)

any_trans : (f t : RldItem) (xs : List RldItem) → same_field f t ≡ true → list_any (same_field f) xs ≡ list_any (same_field t) xs
any_trans f t xs same =
    ap (λ p. list_any (λ g. p == g.p && f.address == g.address) xs) (same_section f t same)
    ∙ ap (λ a. list_any (λ g. t.p == g.p && a == g.address) xs) (same_address f t same)

-- ---- the first of each field

pub firsts_more : (xs : List RldItem) (f : RldItem) → firsts same_field (xs ++ f ∷ []) ≡ with_first same_field (firsts same_field xs) f
firsts_more xs f = fold-append (with_first same_field) [] xs (f ∷ [])

pub firsts_known : (xs : List RldItem) (f : RldItem) → list_any (same_field f) (firsts same_field xs) ≡ true → firsts same_field (xs ++ f ∷ []) ≡ firsts same_field xs
firsts_known xs f known = firsts_more xs f ∙ ap (λ b. if b then firsts same_field xs else firsts same_field xs ++ f ∷ []) known

pub firsts_new : (xs : List RldItem) (f : RldItem) → list_any (same_field f) (firsts same_field xs) ≡ false → firsts same_field (xs ++ f ∷ []) ≡ firsts same_field xs ++ f ∷ []
firsts_new xs f new = firsts_more xs f ∙ ap (λ b. if b then firsts same_field xs else firsts same_field xs ++ f ∷ []) new

any_put : (f x : RldItem) (ys : List RldItem) (there same : Bool) → list_any (same_field x) ys ≡ there → same_field f x ≡ same
    → list_any (same_field f) (if there then ys else ys ++ x ∷ []) ≡ (list_any (same_field f) ys || same)
any_put f x ys true true e s = any_trans f x ys s ∙ e ∙ sym (or_true (list_any (same_field f) ys))
any_put f x ys true false e s = sym (or_false (list_any (same_field f) ys))
any_put f x ys false same e s =
    list_any-append (same_field f) ys (x ∷ []) ∙ ap (λ (b : Bool). list_any (same_field f) ys || b) (or_false (same_field f x) ∙ s)

any_fold : (f : RldItem) (ys xs : List RldItem) → list_any (same_field f) (fold (with_first same_field) ys xs) ≡ (list_any (same_field f) ys || list_any (same_field f) xs)
any_fold f ys [] = sym (or_false (list_any (same_field f) ys))
any_fold f ys (x ∷ xs) =
    any_fold f (with_first same_field ys x) xs
    ∙ ap (λ (b : Bool). b || list_any (same_field f) xs) (any_put f x ys (list_any (same_field x) ys) (same_field f x) refl refl)
    ∙ or_assoc (list_any (same_field f) ys) (same_field f x) (list_any (same_field f) xs)

-- each field is that of a first
pub any_firsts : (f : RldItem) (xs : List RldItem) → list_any (same_field f) (firsts same_field xs) ≡ list_any (same_field f) xs
any_firsts f xs = any_fold f [] xs

abbrev pub Differ : RldItem → RldItem → Type 0
Differ f g = same_field f g ≡ false

differ_put : (x : RldItem) (ys : List RldItem) (there : Bool) → list_any (same_field x) ys ≡ there → AllPairs Differ ys → AllPairs Differ (if there then ys else ys ++ x ∷ [])
differ_put x ys true e pairs = pairs
differ_put x ys false e pairs = all_pairs_push Differ ys x pairs (λ k d within. same_sym (get_or ys k d) x ∙ none_at (same_field x) ys k d e within)

differ_fold : (ys xs : List RldItem) → AllPairs Differ ys → AllPairs Differ (fold (with_first same_field) ys xs)
differ_fold ys [] pairs = pairs
differ_fold ys (x ∷ xs) pairs = differ_fold (with_first same_field ys x) xs (differ_put x ys (list_any (same_field x) ys) refl pairs)

pub all_differ : (xs : List RldItem) → AllPairs Differ (firsts same_field xs)
all_differ xs = differ_fold [] xs (λ i j d before within. absurd (omega (arith, within)))
