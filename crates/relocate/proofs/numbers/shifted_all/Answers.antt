use Rattle.std.proofs.Common.{false, ◌∙◌}
use Rattle.relocate.specs.Patched.{shift_of}
use Rattle.relocate.proofs.Sums.{one_more}
use Rattle.relocate.proofs.numbers.shifted_all.Goals as goal

pub loop-shift-preserved : goal.loop-shift-preserved
loop-shift-preserved c = record {
  sum =
      c.shifted-number.ensures.value
      ∙ one_more (shift_of c.args.modulus) c.args.terms.now c.loop-shift.shift-index
      (record { minus = false; from = 0; to = 0 }) c.args.modulus c.args.stored c.loop-shift.number
      c.loop-shift-test.true c.loop-shift.invariant.sum;
  fits = c.shifted-number.ensures.fits;
}
