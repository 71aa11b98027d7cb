use Rattle.std.proofs.Common.{List, ℕ, ap, length}
use Rattle.pds_image.proofs.Capped.{capped_zero, record_counted}
use Rattle.pds_image.proofs.length.records_length.Goals as goal

pub loop-k-init : goal.loop-k-init
loop-k-init c = capped_zero

pub loop-k-preserved : goal.loop-k-preserved
loop-k-preserved c =
    record_counted c.args.version c.args.records.now c.loop-k.k c.width.result _ c.add.result c.loop-k.total c.add-total.result (rw c.count-k-end.ensures.count at c.loop-k-test.true)
    c.width.ensures.value (ap (λ (r : List ℕ). length r) c.record_behind.ensures) c.add.ensures c.loop-k.invariant c.add-total.ensures
