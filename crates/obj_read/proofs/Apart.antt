-- A term whose field shares no byte with an earlier one overlaps none.
use Rattle.std.proofs.Common.{arith, ◌≡◌, ℕ, zero, suc, ◌+◌, ◌<◌, ◌≤◌, Bool, false, not, cond, List, [], ◌∷◌, Some, None, refl, ◌∙◌, ap}
use Rattle.std.specs.List.{list_any, find, range_with_len}
use Rattle.std.specs.Option.{option_map_or}
use Rattle.obj_cards.specs.declared.card.CardRld.{CardRld}
use Rattle.obj_read.specs.Flags.{length_of_flag}
use Rattle.obj_read.specs.Faults.{covers, joins, clashes_at, overlaps}
use Rattle.obj_read.specs.Covered.{touches}
use Rattle.obj_read.proofs.Joined.{or_left, or_right}

covers_none : (f g : CardRld) (b : ℕ) → f.address ≤ b → b < f.address + length_of_flag f.flag → touches f g ≡ false → covers f.p b g ≡ false
covers_none f g b low high apart = grind (arith, low, high, apart)

none_found : (f : CardRld) (ts : List CardRld) (b : ℕ) → f.address ≤ b → b < f.address + length_of_flag f.flag
    → list_any (touches f) ts ≡ false → find (covers f.p b) ts ≡ None
none_found f [] b low high apart = refl
none_found f (g ∷ ts) b low high apart =
    ap (λ c. cond c (Some g) (find (covers f.p b) ts)) (covers_none f g b low high (or_left (touches f g) (list_any (touches f) ts) apart))
    ∙ none_found f ts b low high (or_right (touches f g) (list_any (touches f) ts) apart)

none_in_range : (p : ℕ → Bool) (a n : ℕ) → ((b : ℕ) → a ≤ b → b < a + n → p b ≡ false) → list_any p (range_with_len a n) ≡ false
none_in_range p a zero clear = refl
none_in_range p a (suc n) clear =
    rw (clear a (omega arith) (omega arith)) (none_in_range p (a + 1) n (λ b low high. clear b (omega (arith, low)) (omega (arith, high))))

pub overlaps_none : (ts : List CardRld) (f : CardRld) → list_any (touches f) ts ≡ false → overlaps ts f ≡ false
overlaps_none ts f apart =
    none_in_range (clashes_at ts f) f.address (length_of_flag f.flag)
    (λ b low high. ap (λ o. option_map_or (λ g. not (joins f g)) o false) (none_found f ts b low high apart))
