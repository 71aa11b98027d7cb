use Rattle.std.proofs.Common.{◌+◌, ◌-◌, arith, length, refl, ◌∙◌}
use Rattle.mod_parts.specs.Numbers.{number_in}
use Rattle.mod_parts.proofs.Numbered.{number_none, number_more, among_same}
use Rattle.mod_parts.proofs.numbers.number_parts.Goals as goal

pub loop-place-init : goal.loop-place-init
loop-place-init c = record {
  sections = refl;
  tables = refl;
  numbers = λ x among. number_none (c.args.before + length c.args.parts.now) (length c.args.parts.now) c.args.parts.now x (number_in c.args.numbers.now x) (omega arith);
}

pub loop-place-preserved : goal.loop-place-preserved
loop-place-preserved c = record {
  sections = c.set.ensures.sections ∙ c.loop-place.invariant.sections;
  tables = c.set.ensures.tables ∙ c.loop-place.invariant.tables;
  numbers = λ x among.
      number_more c.args.before (c.loop-place.place - 1) c.loop-place.place c.args.parts.now _ x (number_in c.args.numbers.now x) (number_in c.loop-place.numbers x) (number_in c.set.new.self x)
      (omega arith) (omega arith) (c.loop-place.invariant.numbers x among)
      (c.set.ensures.numbers x (among_same _ _ _ _ x c.loop-place.invariant.sections c.loop-place.invariant.tables among));
}
