-- The item number of each kind of target.
use Rattle.std.proofs.Common.{◌≡◌, ℕ, ◌+◌, length, refl}
use Rattle.sym_mod.specs.declared.program.Target.TheVariants.{Section as InSection, Label as AtLabel, Unresolved, Register as OfRegister, Total}
use Rattle.linking_model.specs.Places.{Laid}
use Rattle.member_model.specs.Parts.{OneSection, parts, part_number, target_number}

pub section_number : (P : Laid) (i n : ℕ) → n ≡ part_number P (OneSection i) → n ≡ target_number P (InSection i)
unfolding target_number
section_number P i n is = is

pub label_number : (P : Laid) (i n : ℕ) → n ≡ length (parts P) + i + 1 → n ≡ target_number P (AtLabel i)
unfolding target_number
label_number P i n is = is

pub unresolved_number : (P : Laid) (i n : ℕ) → n ≡ length (parts P) + length P.program.labels + i + 1 → n ≡ target_number P (Unresolved i)
unfolding target_number
unresolved_number P i n is = is

pub register_number : (P : Laid) (i n : ℕ) → n ≡ length (parts P) + length P.program.labels + length P.program.unresolved + i + 1
    → n ≡ target_number P (OfRegister i)
unfolding target_number
register_number P i n is = is

pub total_number : (P : Laid) → 0 ≡ target_number P Total
unfolding target_number
total_number P = refl
