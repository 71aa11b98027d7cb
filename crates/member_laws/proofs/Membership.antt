-- What a list has, and where it has it.
use Rattle.std.proofs.Common.{◌≡◌, ℕ, zero, suc, ◌+◌, ◌<◌, ◌≤◌, Bool, true, false, cond, ◌||◌, ◌==◌, List, [], ◌∷◌, ◌++◌, map, filter, length, Option, Some, None, slice_get, ◌⊎◌, inl, inr, zero-add, add-zero, refl, sym, ap, subst, ◌∙◌, arith}
use Rattle.std.specs.Prelude.{All, slice_index_or}
use Rattle.std.proofs.lemmas.Bool.{cases_eq}
use Rattle.std.proofs.lemmas.List.Elements.{All-head, All-tail}
use Rattle.std.specs.List.{AllByRecursion, flat_map, range_with_len, enumerate_from, position_from}
use Rattle.linking_model.specs.Tree.{is_in}

-- x is in the list
abbrev pub Has : {X : Type 0} → List X → X → Type 0
Has [] x = ⊥
Has (y ∷ ys) x = (y ≡ x) ⊎ Has ys x

pub has-each : {X : Type 0} (P : X → Type 0) (xs : List X) (x : X) → AllByRecursion P xs → Has xs x → P x
has-each P [] x all there = absurd there
has-each P (y ∷ ys) x all there = elim there [ inl e ↦ subst P e all.0 | inr later ↦ has-each P ys x all.1 later ]

pub each-of : {X : Type 0} (P : X → Type 0) (xs : List X) → ((x : X) → Has xs x → P x) → AllByRecursion P xs
each-of P [] holds = tt
each-of P (y ∷ ys) holds = (holds y (inl refl), each-of P ys (λ x there. holds x (inr there)))

pub has-all : {X : Type 0} (P : X → Type 0) (xs : List X) (x : X) → All P xs → Has xs x → P x
has-all P [] x all there = absurd there
has-all P (y ∷ ys) x all there =
    elim there [ inl e ↦ subst P e (All-head P y ys all) | inr later ↦ has-all P ys x (All-tail P y ys all) later ]

pub has-left : {X : Type 0} (xs ys : List X) (x : X) → Has xs x → Has (xs ++ ys) x
has-left [] ys x there = absurd there
has-left (z ∷ zs) ys x there = elim there [ inl e ↦ inl e | inr later ↦ inr (has-left zs ys x later) ]

pub has-right : {X : Type 0} (xs ys : List X) (x : X) → Has ys x → Has (xs ++ ys) x
has-right [] ys x there = there
has-right (z ∷ zs) ys x there = inr (has-right zs ys x there)

pub has-append : {X : Type 0} (xs ys : List X) (x : X) → Has (xs ++ ys) x → Has xs x ⊎ Has ys x
has-append [] ys x there = inr there
has-append (z ∷ zs) ys x there =
    elim there [
      | inl e ↦ inl (inl e)
      | inr later ↦ elim (has-append zs ys x later) [ inl a ↦ inl (inr a) | inr b ↦ inr b ]
    ]

pub has-map : {X Y : Type 0} (f : X → Y) (xs : List X) (x : X) → Has xs x → Has (map f xs) (f x)
has-map f [] x there = absurd there
has-map f (z ∷ zs) x there = elim there [ inl e ↦ inl (ap f e) | inr later ↦ inr (has-map f zs x later) ]

-- what a list has been made from
pub record From {X Y : Type 0} (f : X → Y) (xs : List X) (y : Y) : Type 0 where
  pub source : X
  pub there : Has xs source
  pub made : f source ≡ y

pub from-map : {X Y : Type 0} (f : X → Y) (xs : List X) (y : Y) → Has (map f xs) y → From f xs y
from-map f [] y there = absurd there
from-map f (z ∷ zs) y there =
    elim there [
      | inl e ↦ record { source = z; there = inl refl; made = e }
      | inr later ↦ let found = from-map f zs y later in record { source = found.source; there = inr found.there; made = found.made }
    ]

pub has-flat_map : {X Y : Type 0} (f : X → List Y) (xs : List X) (x : X) (y : Y) → Has xs x → Has (f x) y → Has (flat_map f xs) y
has-flat_map f [] x y there within = absurd there
has-flat_map f (z ∷ zs) x y there within =
    elim there [
      | inl e ↦ has-left (f z) (flat_map f zs) y (subst (λ w. Has (f w) y) (sym e) within)
      | inr later ↦ has-right (f z) (flat_map f zs) y (has-flat_map f zs x y later within)
    ]

-- the element whose list has it
pub record Under {X Y : Type 0} (f : X → List Y) (xs : List X) (y : Y) : Type 0 where
  pub source : X
  pub there : Has xs source
  pub within : Has (f source) y

pub from-flat_map : {X Y : Type 0} (f : X → List Y) (xs : List X) (y : Y) → Has (flat_map f xs) y → Under f xs y
from-flat_map f [] y there = absurd there
from-flat_map f (z ∷ zs) y there =
    elim (has-append (f z) (flat_map f zs) y there) [
      | inl a ↦ record { source = z; there = inl refl; within = a }
      | inr b ↦ let found = from-flat_map f zs y b in record { source = found.source; there = inr found.there; within = found.within }
    ]

pub has-filter : {X : Type 0} (test : X → Bool) (xs : List X) (x : X) → Has xs x → test x ≡ true → Has (filter test xs) x
has-filter test [] x there passes = absurd there
has-filter test (z ∷ zs) x there passes =
    elim (test z) as (λ b. test z ≡ b → Has (cond b (z ∷ filter test zs) (filter test zs)) x) [
      | true ↦ λ e. elim there [ inl s ↦ inl s | inr later ↦ inr (has-filter test zs x later passes) ]
      | false ↦ λ e. elim there [ inl s ↦ absurd (differ (sym e ∙ ap test s ∙ passes)) | inr later ↦ has-filter test zs x later passes ]
    ] refl
  where
    differ : false ≡ true → ⊥
    differ e = cc

pub from-filter : {X : Type 0} (test : X → Bool) (xs : List X) (x : X) → Has (filter test xs) x → Has xs x × (test x ≡ true)
from-filter test [] x there = absurd there
from-filter test (z ∷ zs) x there =
    elim (test z) as (λ b. test z ≡ b → Has (cond b (z ∷ filter test zs) (filter test zs)) x → Has (z ∷ zs) x × (test x ≡ true)) [
      | true ↦ λ e h. elim h [ inl s ↦ (inl s, ap test (sym s) ∙ e) | inr later ↦ let r = from-filter test zs x later in (inr r.0, r.1) ]
      | false ↦ λ e h. let r = from-filter test zs x h in (inr r.0, r.1)
    ] refl there

pub has-range : (a n i : ℕ) → a ≤ i → i < a + n → Has (range_with_len a n) i
has-range a zero i low high = absurd (omega arith)
has-range a (suc n) i low high =
    elim (cases_eq a i) [ inl e ↦ inl e | inr other ↦ inr (has-range (a + 1) n i (omega arith) (omega arith)) ]

pub from-range : (a n i : ℕ) → Has (range_with_len a n) i → (a ≤ i) × (i < a + n)
from-range a zero i there = absurd there
from-range a (suc n) i there =
    elim there [
      | inl e ↦ (omega arith, omega arith)
      | inr later ↦ let r = from-range (a + 1) n i later in (omega arith, omega arith)
    ]

-- ---- by place

pub has-at : {X : Type 0} (xs : List X) (k : ℕ) (x : X) → slice_get xs k ≡ Some x → Has xs x
has-at [] k x there = absurd cc
has-at (y ∷ ys) zero x there = inl (let e : y ≡ x = cc in e)
has-at (y ∷ ys) (suc k) x there = inr (has-at ys k x there)

pub get-within : {X : Type 0} (xs : List X) (k : ℕ) → k < length xs → (x : X) × (slice_get xs k ≡ Some x)
get-within [] k low = absurd (omega arith)
get-within (y ∷ ys) zero low = (y, refl)
get-within (y ∷ ys) (suc k) low = get-within ys k (omega arith)

pub get-left : {X : Type 0} (xs ys : List X) (k : ℕ) (x : X) → slice_get xs k ≡ Some x → slice_get (xs ++ ys) k ≡ Some x
get-left [] ys k x there = absurd cc
get-left (z ∷ zs) ys zero x there = there
get-left (z ∷ zs) ys (suc k) x there = get-left zs ys k x there

pub get-right : {X : Type 0} (xs ys : List X) (n k : ℕ) → n ≡ length xs + k → slice_get (xs ++ ys) n ≡ slice_get ys k
get-right [] ys n k e = ap (λ m. slice_get ys m) (e ∙ zero-add k)
get-right (z ∷ zs) ys zero k e = absurd (omega arith)
get-right (z ∷ zs) ys (suc n) k e = get-right zs ys n k (omega arith)

-- an element with its number, where the list is numbered from j on
pub from-enumerate : {X : Type 0} (j : ℕ) (xs : List X) (y : ℕ × X) → Has (enumerate_from j xs) y → (k : ℕ) × (slice_get xs k ≡ Some y.1) × (y.0 ≡ j + k)
from-enumerate j [] y there = absurd there
from-enumerate j (x ∷ xs) y there =
    elim there [
      | inl e ↦ (0, ap (λ z. Some z.1) e, ap (λ z. z.0) (sym e) ∙ sym (add-zero j))
      | inr later ↦ let r = from-enumerate (j + 1) xs y later in (suc r.0, r.1, r.2 ∙ moved j r.0)
    ]
  where
    moved : (j k : ℕ) → j + 1 + k ≡ j + suc k
    moved j k = omega arith

-- the first place at which a test passes is that of an element that passes
pub record Found {X : Type 0} (test : X → Bool) (j : ℕ) (xs : List X) : Type 0 where
  pub place : ℕ
  pub item : X
  pub is : position_from test j xs ≡ Some (j + place)
  pub there : slice_get xs place ≡ Some item
  pub passes : test item ≡ true

pub found_from : {X : Type 0} (test : X → Bool) (j : ℕ) (xs : List X) (x : X) → Has xs x → test x ≡ true → Found test j xs
found_from test j [] x there passes = absurd there
found_from test j (y ∷ ys) x there passes =
    elim (test y) as (λ b. test y ≡ b → (e : position_from test j (y ∷ ys) ≡ cond b (Some j) (position_from test (j + 1) ys)) → Found test j (y ∷ ys)) [
      | true ↦ λ e is. record { place = 0; item = y; is = is ∙ ap Some (sym (add-zero j)); there = refl; passes = e }
      | false ↦ λ e is.
          let rest = found_from test (j + 1) ys x (later e) passes in
          record { place = suc rest.place; item = rest.item; is = is ∙ rest.is ∙ ap Some (moved j rest.place); there = rest.there; passes = rest.passes }
    ] refl refl
  where
    moved : (j k : ℕ) → j + 1 + k ≡ j + suc k
    moved j k = omega arith

    later : test y ≡ false → Has ys x
    later e = elim there [ inl s ↦ absurd (differ (sym e ∙ ap test s ∙ passes)) | inr l ↦ l ]
      where
        differ : false ≡ true → ⊥
        differ e = cc
