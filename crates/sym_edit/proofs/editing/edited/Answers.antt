use Rattle.std.proofs.Common.{◌∙◌, sym}
use Rattle.sym_edit.proofs.Turns.{refused_turn, made_turn, last_turn, due}
use Rattle.sym_edit.proofs.editing.edited.Goals as goal

pub returns-in-Some : goal.returns-in-Some
returns-in-Some c = let a = c.fault_of.ensures in let b = c.in-Some.is in due _ _ (refused_turn c.args.e.now c.loop-at.at c.loop-at.now _ c.in-Some.fault _ c.loop-at-test.true (sym a ∙ b) c.loop-at.invariant)

pub loop-at-preserved : goal.loop-at-preserved
loop-at-preserved c = made_turn c.args.e.now c.loop-at.at c.loop-at.now c.in_ok-now.now _ _ c.loop-at-test.true (sym c.fault_of.ensures ∙ c.in_default.is) c.in_ok-now.ensures c.loop-at.invariant

pub returns : goal.returns
returns c = last_turn c.args.e.now c.loop-at.at c.loop-at.now _ c.loop-at-test.false c.loop-at.invariant
