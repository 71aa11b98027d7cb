-- Numbers in words: hexadecimal digits in either case, and decimal digits without leading zeros.
use Rattle.std.specs.Prelude.{ℕ, ◌==◌, Bool, ◌&&◌, not, nat_le, if◌then◌else◌, List, length, Option, Some, None, slice_index}
use Rattle.std.specs.Char.{is_digit}
use Rattle.std.specs.List.{list_all}
use Rattle.std.specs.Str.Parse.{digits_value}

abbrev pub are_digits : ℕ → List ℕ → Bool
are_digits base text = list_all (λ c. is_digit c base) text

-- one to `most` digits of the base
abbrev pub is_numeral : ℕ → ℕ → List ℕ → Bool
is_numeral base most text = nat_le 1 (length text) && (nat_le (length text) most && are_digits base text)

-- what one to six hexadecimal digits give
unfoldable pub hex_number : List ℕ → Option ℕ
hex_number text = if is_numeral 16 6 text then Some (digits_value 16 text) else None

-- what a decimal number from 1 to 20000 without leading zeros gives
unfoldable pub generator_size : List ℕ → Option ℕ
generator_size text =
    if is_numeral 10 5 text && (not (slice_index text 0 == 48) && (nat_le 1 (digits_value 10 text) && nat_le (digits_value 10 text) 20000))
    then Some (digits_value 10 text) else None
