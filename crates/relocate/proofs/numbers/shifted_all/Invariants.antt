use Rattle.std.proofs.Common.{◌≡◌, ◌+◌, ◌%◌, ◌<◌, take, sum_by}
use Rattle.relocate.specs.Patched.{shift_of}
use Rattle.relocate.proofs.numbers.shifted_all.Given as goal

abbrev pub invariant-loop-shift : goal.invariant-loop-shift
invariant-loop-shift l = record {
  sum : l.number ≡ (l.stored + sum_by (shift_of l.modulus) (take l.shift-index l.terms)) % l.modulus;
  fits : l.number < l.modulus;
}
