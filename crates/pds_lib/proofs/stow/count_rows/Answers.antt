use Rattle.std.proofs.Common.{arith}
use Rattle.pds_lib.proofs.StowLaws.{count_more}
use Rattle.pds_lib.proofs.stow.count_rows.Goals as goal

pub loop-r-preserved : goal.loop-r-preserved
loop-r-preserved c = (
  λ image. count_more image c.args.places.now c.args.given.now c.args.rows.now c.loop-r.r-index _ c.loop-r.total c.entry_count-total.result _
      c.loop-r-test.true (c.entry_count-total.ensures.count image) (c.loop-r.invariant.0 image),
  omega (arith, c.entry_count-total.ensures.few, c.loop-r.invariant.1),
)
