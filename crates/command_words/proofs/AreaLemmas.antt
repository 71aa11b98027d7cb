-- How large the numbers in words are, and how areas stand.
use Rattle.std.proofs.Common.{ℕ, ◌≡◌, ◌<◌, ◌≤◌, ◌^◌, Bool, true, false, ◌&&◌, List, [], ◌∷◌, length, Option, Some, None, IfSome, nat_le, nat_lt, if◌then◌else◌, arith, lit<, refl, subst, ◌==◌}
use borrow.Author.Tests.{ltb-true, leb-true}
use Rattle.std.specs.Char.{is_digit}
use Rattle.std.specs.List.{filter_map, cons_option, before_first, after_first}
use Rattle.std.specs.Option.{option_and_then, option_map_or}
use Rattle.std.specs.Str.Parse.{digits_value, AllDigits}
use Rattle.std.proofs.lemmas.Int.Digits.{digits_value-lt}
use Rattle.std.proofs.Math.Nat.{pow-le-pow_right}
use Rattle.command_words.specs.Digits.{are_digits, hex_number}
use Rattle.command_words.specs.Lists.{area_in, are_areas, pieces, is_area_list, areas_in, IsArea, AreAreas}
use Rattle.command_words.specs.declared.areas.AreaRange.{AreaRange}

both_true : (a b : Bool) → (a && b) ≡ true → (a ≡ true) × (b ≡ true)
both_true true b h = (refl, h)
both_true false b h = absurd cc

taken : {X : Type 0} (b : Bool) (v n : X) → (if b then Some v else None) ≡ Some n → (b ≡ true) × (v ≡ n)
taken true v n is = (refl, cc)
taken false v n is = absurd cc

digits_true : (base : ℕ) (text : List ℕ) → are_digits base text ≡ true → AllDigits base text
digits_true base [] h = tt
digits_true base (c ∷ text) h =
    let parts = both_true (is_digit c base) (are_digits base text) h in (ltb-true _ _ parts.0, digits_true base text parts.1)

pub hex_small : (text : List ℕ) (n : ℕ) → hex_number text ≡ Some n → n < 16777216
unfolding hex_number
hex_small text n is =
    let found = taken _ (digits_value 16 text) n is in
    let parts = both_true (nat_le 1 (length text)) _ found.0 in
    let few = both_true (nat_le (length text) 6) (are_digits 16 text) parts.1 in
    let short : length text ≤ 6 = leb-true _ _ few.0 in
    let below : digits_value 16 text < 16 ^ length text = digits_value-lt 16 text (digits_true 16 text few.1) in
    let most : 16 ^ length text ≤ 16 ^ 6 = pow-le-pow_right (lit< tt) {i = length text} {j = 6} short in
    let same : digits_value 16 text ≡ n = found.1 in omega arith

pub hex_known : (text : List ℕ) → IfSome (hex_number text) (λ n. n < 2 ^ 24)
hex_known text = by_answer (hex_number text) (hex_small text)
  where
    by_answer : (o : Option ℕ) → ((n : ℕ) → o ≡ Some n → n < 16777216) → IfSome o (λ n. n < 2 ^ 24)
    by_answer None known = tt
    by_answer (Some n) known = known n refl

both_given : (from to : Option ℕ) (a : AreaRange) → ((n : ℕ) → to ≡ Some n → n < 16777216)
    → option_and_then (λ from. option_and_then (λ to. if nat_lt from to then Some (let area : AreaRange = record { from = from; to = to } in area) else None) to) from ≡ Some a
    → IsArea a
both_given None to a small is = absurd cc
both_given (Some from) None a small is = absurd cc
both_given (Some from) (Some to) a small is =
    let found = taken (nat_lt from to) (let area : AreaRange = record { from = from; to = to } in area) a is in
    subst (λ (a : AreaRange). IsArea a) found.1 (record { ascends = ltb-true _ _ found.0; fits = small to refl })

pub area_given : (piece : List ℕ) (a : AreaRange) → area_in piece ≡ Some a → IsArea a
unfolding area_in
area_given piece a is = both_given (hex_number (before_first (λ c. c == 45) piece)) (hex_number (after_first (λ c. c == 45) piece)) a (hex_small (after_first (λ c. c == 45) piece)) is

pub area_known : (piece : List ℕ) → IfSome (area_in piece) IsArea
area_known piece = by_answer (area_in piece) (area_given piece)
  where
    by_answer : (o : Option AreaRange) → ((a : AreaRange) → o ≡ Some a → IsArea a) → IfSome o IsArea
    by_answer None known = tt
    by_answer (Some a) known = known a refl

first_in_order : (low : ℕ) (o : Option AreaRange) (rest : List (List ℕ)) → ((a : AreaRange) → o ≡ Some a → IsArea a)
    → ((a : AreaRange) → are_areas a.to rest ≡ true → AreAreas a.to (filter_map area_in rest))
    → option_map_or (λ a. nat_le low a.from && are_areas a.to rest) o false ≡ true → AreAreas low (cons_option o (filter_map area_in rest))
first_in_order low None rest known later good = absurd cc
first_in_order low (Some a) rest known later good =
    let parts = both_true (nat_le low a.from) (are_areas a.to rest) good in
    (leb-true _ _ parts.0, known a refl, later a parts.1)

in_order : (low : ℕ) (texts : List (List ℕ)) → are_areas low texts ≡ true → AreAreas low (filter_map area_in texts)
in_order low [] good = tt
in_order low (piece ∷ rest) good =
    first_in_order low (area_in piece) rest (area_given piece) (λ a. in_order a.to rest) good

pub areas_in_order : (text : List ℕ) → AreAreas 0 (areas_in text)
unfolding areas_in is_area_list
areas_in_order text = by_test (are_areas 0 (pieces text)) (in_order 0 (pieces text))
  where
    by_test : (b : Bool) → (b ≡ true → AreAreas 0 (filter_map area_in (pieces text))) → AreAreas 0 (if b then filter_map area_in (pieces text) else [])
    by_test true good = good refl
    by_test false good = tt
