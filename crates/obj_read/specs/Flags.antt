-- The flag of an item of the relocation dictionary (GC28-6538): kind, length and sign of a term.
use Rattle.std.specs.Prelude.{ℕ, ◌+◌, ◌/◌, ◌%◌, Bool, ◌==◌, if◌then◌else◌}
use Rattle.sym_mod.specs.declared.module.Kind.{Kind}
use Rattle.sym_mod.specs.declared.module.Kind.TheVariants.{Address, Branch, Displacement, Total}

-- bits 0 to 3
abbrev pub kind_of_flag : ℕ → Kind
kind_of_flag flag =
    if flag / 16 == 0 then Address else if flag / 16 == 1 then Branch else if flag / 16 == 2 then Displacement else Total

-- bits 4 and 5 are the length less one
abbrev pub length_of_flag : ℕ → ℕ
length_of_flag flag = flag / 4 % 4 + 1

-- bit 6: the term is subtracted
abbrev pub is_minus : ℕ → Bool
is_minus flag = flag / 2 % 2 == 1
