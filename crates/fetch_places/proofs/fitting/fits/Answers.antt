use Rattle.std.proofs.Common.{◌≡◌, IfOk, IsTrue, ◌↔◌}
use Rattle.member_model.specs.Placing.{sections_of}
use Rattle.fetch_places.specs.Extents.{Fits, StandEach}
use Rattle.fetch_places.proofs.fitting.fits.Goals as goal

pub returns-in-Scattered : goal.returns-in-Scattered
returns-in-Scattered c =
    let found : IfOk c.stand_each.result (λ fit. IsTrue fit ↔ StandEach c.in-Scattered.addresses (sections_of c.args.items.now)) = rw c.as_slice.ensures at c.stand_each.ensures in
    rw c.in-Scattered.is found
