-- Lengths and addresses. Sections, segments and tables begin at multiples of 8 (this project's profile).
use Rattle.std.specs.Prelude.{ℕ, ◌+◌, ◌*◌, ◌/◌, max, Bool, ◌&&◌, nat_le, nat_lt, List, [], ◌∷◌, fold}

-- the least multiple of 8 that is not below n
abbrev pub round8 : ℕ → ℕ
round8 n = (n + 7) / 8 * 8

-- the greatest of the numbers, 0 where there is none
abbrev pub greatest : List ℕ → ℕ
greatest numbers = fold max 0 numbers

-- how far items of these lengths reach that stand one after another, each from a multiple of 8 on
abbrev pub extent : List ℕ → ℕ
extent [] = 0
extent (n ∷ []) = n
extent (n ∷ m ∷ lengths) = round8 n + extent (m ∷ lengths)

-- the place is one of the n places from a on
abbrev pub is_among : ℕ → ℕ → ℕ → Bool
is_among a n place = nat_le a place && nat_lt place (a + n)
