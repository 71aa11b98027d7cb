-- Sections that are scattered over areas lie below the end of the last area.
use Rattle.std.proofs.Common.{◌≡◌, ℕ, zero, suc, ◌+◌, ◌<◌, ◌≤◌, Bool, true, false, nat_le, if◌then◌else◌, List, [], ◌∷◌, length, slice_index, Option, Some, None, option_map, option_and_then, refl, subst, arith}
use Rattle.std.specs.List.{AllByRecursion as Each}
use Rattle.std.proofs.lemmas.Bool.{leb-true}
use Rattle.std.proofs.lemmas.Option.{none-some}
use Rattle.linking_model.specs.Numbers.{round8}
use Rattle.linking_model.specs.Scattered.{Area, Found, found, scattered}
use Rattle.member_model.specs.StandsFor.{AreAreas}

-- the area ends where addresses end, or before
abbrev pub IsLow : Area → Type 0
IsLow x = x.end ≤ 16777215

pub are_low : (from : ℕ) (areas : List Area) → AreAreas from areas → (from ≤ 16777215) × Each IsLow areas
are_low from [] are = (are, tt)
are_low from (x ∷ rest) are =
    let later : (x.end ≤ 16777215) × Each IsLow rest = are_low x.end rest are.2 in
    (below from x.mark x.end are.0 are.1 later.0, (later.0, later.1))
  where
    below : (from mark end : ℕ) → from ≤ mark → mark < end → end ≤ 16777215 → from ≤ 16777215
    below from mark end low high last = omega (arith, low, high, last)

-- n bytes that are found lie so, and so do the areas that are left
abbrev IsLowFound : ℕ → Found → Type 0
IsLowFound n f = (f.address + n ≤ 16777215) × Each IsLow f.left

found_low : (areas : List Area) (n : ℕ) (f : Found) → Each IsLow areas → found areas n ≡ Some f → IsLowFound n f
found_low [] n f low is = absurd (none-some f is)
found_low (a ∷ areas) n f low is = by_cases (nat_le (round8 a.mark + n) a.end) refl is (λ g some. found_low areas n g low.1 some)
  where
    first : Found
    first = record { address = round8 a.mark; left = record a { mark = round8 a.mark + n } ∷ areas }

    behind : Found → Found
    behind g = record g { left = a ∷ g.left }

    same : (g f : Found) → Some g ≡ Some f → g ≡ f
    same g f is = cc

    within : (b n e : ℕ) → b + n ≤ e → e ≤ 16777215 → b + n ≤ 16777215
    within b n e fits last = omega (arith, fits, last)

    in_rest : (o : Option Found) → found areas n ≡ o → option_map behind o ≡ Some f → ((g : Found) → found areas n ≡ Some g → IsLowFound n g) → IsLowFound n f
    in_rest None none is later = absurd (none-some f is)
    in_rest (Some g) some is later = let rest : IsLowFound n g = later g some in subst (IsLowFound n) (same (behind g) f is) (rest.0, (low.0, rest.1))

    by_cases : (b : Bool) → nat_le (round8 a.mark + n) a.end ≡ b → (if b then Some first else option_map behind (found areas n)) ≡ Some f
        → ((g : Found) → found areas n ≡ Some g → IsLowFound n g) → IsLowFound n f
    by_cases true fits is later =
        subst (IsLowFound n) (same first f is) (within (round8 a.mark) n a.end (leb-true (round8 a.mark + n) a.end fits) low.0, (low.0, low.1))
    by_cases false full is later = in_rest (found areas n) refl is later

pub scattered_low : (areas : List Area) (lengths addresses : List ℕ) (j : ℕ) → Each IsLow areas → scattered areas lengths ≡ Some addresses
    → j < length lengths → slice_index addresses j + slice_index lengths j ≤ 16777215
unfolding scattered
scattered_low areas [] addresses j low is below = absurd (omega (arith, below))
scattered_low areas (n ∷ lengths) addresses j low is below =
    in_first (found areas n) refl is (λ left rest k low others within. scattered_low left lengths rest k low others within)
  where
    same : (xs ys : List ℕ) → Some xs ≡ Some ys → xs ≡ ys
    same xs ys is = cc

    Later : Type 0
    Later =
        (left : List Area) (rest : List ℕ) (k : ℕ) → Each IsLow left → scattered left lengths ≡ Some rest → k < length lengths
        → slice_index rest k + slice_index lengths k ≤ 16777215

    at_place : (j : ℕ) (f : Found) (rest : List ℕ) → j < suc (length lengths) → IsLowFound n f → scattered f.left lengths ≡ Some rest → Later
        → slice_index (f.address ∷ rest) j + slice_index (n ∷ lengths) j ≤ 16777215
    at_place zero f rest below small others later = small.0
    at_place (suc j) f rest below small others later = later f.left rest j small.1 others (omega (arith, below))

    in_rest : (f : Found) → found areas n ≡ Some f → (o : Option (List ℕ)) → scattered f.left lengths ≡ o
        → option_map (λ rest. f.address ∷ rest) o ≡ Some addresses → Later → slice_index addresses j + slice_index (n ∷ lengths) j ≤ 16777215
    in_rest f some None none is later = absurd (none-some addresses is)
    in_rest f some (Some rest) others is later =
        subst (λ ks. slice_index ks j + slice_index (n ∷ lengths) j ≤ 16777215) (same (f.address ∷ rest) addresses is)
        (at_place j f rest below (found_low areas n f low some) others later)

    in_first : (o : Option Found) → found areas n ≡ o
        → option_and_then (λ f. option_map (λ rest. f.address ∷ rest) (scattered f.left lengths)) o ≡ Some addresses → Later
        → slice_index addresses j + slice_index (n ∷ lengths) j ≤ 16777215
    in_first None none is later = absurd (none-some addresses is)
    in_first (Some f) some is later = in_rest f some (scattered f.left lengths) refl is later
