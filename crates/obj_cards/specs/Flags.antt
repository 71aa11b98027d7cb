-- The flag of an item of the relocation dictionary (GC28-6538). Bits 0 to 3 are the kind of the constant: 0 A-type,
-- 1 V-type, 2 the displacement of a pseudo-register, 3 the total length of all.
use Rattle.std.specs.Prelude.{ℕ, ◌+◌, ◌/◌, ◌%◌, Bool, ◌==◌}

-- bits 0 to 3: a V-type constant
abbrev pub is_branch : ℕ → Bool
is_branch flag = flag / 16 == 1

-- bits 4 and 5 are the length less one
abbrev pub field_length : ℕ → ℕ
field_length flag = flag / 4 % 4 + 1

-- bit 6: the term is subtracted
abbrev pub is_minus : ℕ → Bool
is_minus flag = flag / 2 % 2 == 1
