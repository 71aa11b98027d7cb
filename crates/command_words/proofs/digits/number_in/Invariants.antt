use Rattle.std.proofs.Common.{◌≡◌, ◌^◌, ◌<◌, drop}
use Rattle.std.specs.Str.Parse.{digits_value, digits_value_after}
use Rattle.command_words.specs.Digits.{are_digits}
use Rattle.command_words.proofs.digits.number_in.Given as goal

-- what is left reads on from the value so far, which has as many digits as were read
abbrev pub invariant-loop-digit : goal.invariant-loop-digit
invariant-loop-digit l = record {
  value : digits_value_after l.base l.value (drop l.digit-index l.digits) ≡ digits_value l.base l.digits;
  digits : are_digits l.base (drop l.digit-index l.digits) ≡ are_digits l.base l.digits;
  below : l.value < 16 ^ l.digit-index;
  base : l.base ≡ l.fn.base;
}
