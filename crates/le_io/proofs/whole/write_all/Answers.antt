use Rattle.std.proofs.Common.{refl, arith, ◌∙◌}
use Rattle.le_io.proofs.TextSoFar.{gains_nothing, gains_more, fits_in}
use Rattle.le_io.proofs.whole.write_all.Goals as goal

pub returns-in-Ok-eq0-clause-held : goal.returns-in-Ok-eq0-clause-held
returns-in-Ok-eq0-clause-held g c =
    (c.loop-done.done, gains_nothing _ _ _ _ c.loop-done.invariant.gained (rw c.in-Ok-eq0.field-0-test at c.in-Ok-eq0.ensures.held))

pub returns-in-Err-clause-held : goal.returns-in-Err-clause-held
returns-in-Err-clause-held g c =
    (c.loop-done.done, gains_nothing _ _ _ _ c.loop-done.invariant.gained c.in-Err.ensures.held)

pub loop-done-preserved : goal.loop-done-preserved
loop-done-preserved g c =
    record {
      inside = fits_in c.args.b.now _ c.loop-done.done c.in-Ok.n c.loop-done-test.true refl c.in-Ok.ensures.within;
      gained = gains_more _ _ _ c.args.b.now _ c.loop-done.done c.in-Ok.n refl c.loop-done.invariant.gained c.in-Ok.ensures.held;
      no_fault = c.in-Ok.ensures.cause.1 (omega arith) ∙ c.loop-done.invariant.no_fault;
    }
