-- Numbers in fields of bytes, and rounded lengths.
use Rattle.std.specs.Prelude.{ℕ, ◌<◌, ◌+◌, ◌*◌, ◌/◌, ◌^◌, List}
use Rattle.std.specs.List.{AllByRecursion}

-- numbers from 0 to 255
abbrev pub AreBytes : List ℕ → Type 0
AreBytes bytes = AllByRecursion (λ b. b < 256) bytes

-- how many values a field of so many bytes has
abbrev pub modulus : ℕ → ℕ
modulus length = 256 ^ length

-- the least multiple of 8 that is not below n
abbrev pub round8 : ℕ → ℕ
round8 n = (n + 7) / 8 * 8
