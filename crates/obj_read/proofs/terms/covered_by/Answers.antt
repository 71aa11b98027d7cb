use Rattle.obj_read.proofs.Covered.{covered_next}
use Rattle.obj_read.proofs.terms.covered_by.Goals as goal

pub loop-k-preserved : goal.loop-k-preserved
loop-k-preserved c =
    covered_next c.args.terms.now c.loop-k.k _ c.loop-k.covered c.in_ok-covered.covered c.loop-k-test.true c.loop-k.invariant c.in_ok-covered.ensures
