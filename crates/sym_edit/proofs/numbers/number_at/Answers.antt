use Rattle.std.proofs.Common.{◌∙◌, arith, sym}
use Rattle.sym_edit.proofs.Numbered.{counted_within, counted_below, number_is}
use Rattle.sym_edit.proofs.numbers.number_at.Goals as goal

pub bounds-before-at : goal.bounds-before-at
bounds-before-at c = counted_within c.args.gone.now c.args.before.now c.args.item c.requires (sym c.stays.ensures ∙ c.if-stays.true)

pub overflow_cast-result : goal.overflow_cast-result
overflow_cast-result c = omega (arith, counted_below c.args.gone.now c.args.before.now c.args.item c.requires (sym c.stays.ensures ∙ c.if-stays.true))

pub returns-then-stays : goal.returns-then-stays
returns-then-stays c = number_is c.args.gone.now c.args.before.now c.args.item c.requires (sym c.stays.ensures ∙ c.if-stays.true)
