use Rattle.std.proofs.Common.{arith, ◌*◌, ◌+◌, ◌<◌}
use Rattle.command_words.proofs.DigitLemmas.{product_fits, more_fits}
use Rattle.command_words.proofs.digits.number_in.Goals as goal

pub overflow_mul-value : goal.overflow_mul-value
overflow_mul-value c =
    let fits = product_fits c.loop-digit.value c.args.base c.loop-digit.digit-index c.loop-digit.invariant.below (omega arith) c.requires.small in
    omega arith

pub overflow_add-value : goal.overflow_add-value
overflow_add-value c =
    let digit : c.in_ok-value.field-0 < c.args.base = rw c.in_ok-value.ensures.value.1 c.in_ok-value.ensures.value.0 in
    let fits : c.loop-digit.value * c.args.base + c.in_ok-value.field-0 < 4294967296 =
    more_fits c.loop-digit.value c.args.base c.in_ok-value.field-0 c.loop-digit.digit-index c.loop-digit.invariant.below (omega arith) c.requires.small digit in
    omega arith
