use Rattle.pds_image.proofs.Capped.{capped_zero, body_counted}
use Rattle.pds_image.proofs.length.bodies_length.Goals as goal

pub loop-e-init : goal.loop-e-init
loop-e-init c = capped_zero

pub loop-e-preserved : goal.loop-e-preserved
loop-e-preserved c =
    body_counted c.args.library.now c.entries-e-items.result.now c.loop-e.e-index _ c.body_length.result c.loop-e.total c.add-total.result c.loop-e-test.true
    c.body_length.ensures c.loop-e.invariant c.add-total.ensures
