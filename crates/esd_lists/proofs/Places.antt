-- Symbols that stand in a list where they are looked for.
use Rattle.std.proofs.Common.{◌≡◌, ℕ, zero, suc, ◌+◌, ◌<◌, Bool, true, false, ◌||◌, List, [], ◌∷◌, length, slice_get, Option, Some, None, is_some, refl, sym, ap, ◌∙◌, subst, arith}
use Rattle.std.specs.Prelude.{position}
use Rattle.std.specs.List.{list_any, position_from, IsDistinct}
use Rattle.std.specs.Option.{option_map_or}
use Rattle.std.proofs.lemmas.Map.Keys.{IsDistinct-head, IsDistinct-tail}
use Rattle.std.proofs.lemmas.Option.{slice_get_within}
use Rattle.linking_model.specs.Kept.{Symbol, symbol_eq}
use Rattle.esd_index.specs.Parts.{stands_at}
use Rattle.esd_lists.proofs.Firsts.{symbol_refl, symbol_same, position_is, position_found}
use Rattle.esd_lists.proofs.Each.{all_at}
use Rattle.esd_lists.proofs.Distinct.{symbols_equal}

there_case : (y : Symbol) (o : Option Symbol) → option_map_or (λ z. symbol_eq z y) o false ≡ true → o ≡ Some y
there_case y None e = absurd cc
there_case y (Some z) e = ap Some (symbol_same z y e)

pub stands_there : (ys : List Symbol) (k : ℕ) (y : Symbol) → stands_at ys k y ≡ true → slice_get ys k ≡ Some y
stands_there ys k y e = there_case y (slice_get ys k) e

pub stands_within : (ys : List Symbol) (k : ℕ) (y : Symbol) → stands_at ys k y ≡ true → k < length ys
stands_within ys k y e = slice_get_within ys k y (stands_there ys k y e)

placed_from : (n : ℕ) (ys : List Symbol) (k : ℕ) (y : Symbol) → IsDistinct symbol_eq ys → slice_get ys k ≡ Some y → position_from (symbol_eq y) n ys ≡ Some (n + k)
placed_from n [] k y d e = absurd cc
placed_from n (x ∷ ys) zero y d e =
    let same : x ≡ y = cc in
    let here : symbol_eq y x ≡ true = subst (λ (z : Symbol). symbol_eq y z ≡ true) (sym same) (symbol_refl y) in
    let none : n + 0 ≡ n = omega arith in
    rw (here, none) refl
placed_from n (x ∷ ys) (suc k) y d e =
    let other : symbol_eq x y ≡ false = all_at (λ z. symbol_eq x z ≡ false) ys k y (IsDistinct-head symbol_eq x ys d) e in
    let back : symbol_eq y x ≡ false = symbols_equal.symm y x ∙ other in
    let more : n + 1 + k ≡ n + suc k = omega arith in
    rw back (placed_from (n + 1) ys k y (IsDistinct-tail symbol_eq x ys d) e ∙ ap Some more)

-- a symbol has the place at which it stands, where none stands twice
pub placed : (ys : List Symbol) (k : ℕ) (y : Symbol) → IsDistinct symbol_eq ys → stands_at ys k y ≡ true → position (symbol_eq y) ys ≡ Some k
placed ys k y d e =
    let none : 0 + k ≡ k = omega arith in
    position_is (symbol_eq y) ys ∙ placed_from 0 ys k y d (stands_there ys k y e) ∙ ap Some none

or_true : (b : Bool) → (b || true) ≡ true
or_true true = refl
or_true false = refl

there_among : (ys : List Symbol) (k : ℕ) (y : Symbol) → slice_get ys k ≡ Some y → list_any (symbol_eq y) ys ≡ true
there_among [] k y e = absurd cc
there_among (x ∷ ys) zero y e =
    let same : x ≡ y = cc in
    let here : symbol_eq y x ≡ true = subst (λ (z : Symbol). symbol_eq y z ≡ true) (sym same) (symbol_refl y) in
    rw here refl
there_among (x ∷ ys) (suc k) y e = rw (there_among ys k y e) (or_true (symbol_eq y x))

-- a symbol that stands in a list is among it
pub stands_among : (ys : List Symbol) (k : ℕ) (y : Symbol) → stands_at ys k y ≡ true → list_any (symbol_eq y) ys ≡ true
stands_among ys k y e = there_among ys k y (stands_there ys k y e)

-- a symbol is among a list where it has a place in it
pub placed_among : (ys : List Symbol) (y : Symbol) (o : Option ℕ) → o ≡ position (symbol_eq y) ys → is_some o ≡ list_any (symbol_eq y) ys
placed_among ys y o e = ap is_some e ∙ position_found (symbol_eq y) ys
