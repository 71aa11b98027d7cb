use Rattle.std.proofs.Common.{◌∙◌}
use Rattle.sym_edit.specs.Without.{item_without}
use Rattle.sym_edit.proofs.Staying.{stays_next, goes_next}
use Rattle.sym_edit.proofs.leaving.items_left.Goals as goal
use Rattle.sym_edit.proofs.leaving.items_left.Goals.{then-not-gone-at+in_ok-push, else-not-gone-at}

pub loop-at-preserved : goal.loop-at-preserved
loop-at-preserved c =
    elim c.if-not-gone-at.branch [
      | then-not-gone-at+in_ok-push w ↦
          stays_next (item_without c.args.numbers.now) c.args.gone.now c.args.items.now c.loop-at.at _ c.loop-at.made c.if-not-gone-at.made _ w.item_left.result
          c.loop-at-test.true c.requires w.if-not-gone-at.true w.item_left.ensures (w.made-is ∙ w.in_ok-push.ensures.ok) c.loop-at.invariant
      | else-not-gone-at w ↦
          goes_next (item_without c.args.numbers.now) c.args.gone.now c.args.items.now c.loop-at.at c.loop-at.made c.if-not-gone-at.made _
          c.loop-at-test.true c.requires w.if-not-gone-at.false w.made-is c.loop-at.invariant
    ]
