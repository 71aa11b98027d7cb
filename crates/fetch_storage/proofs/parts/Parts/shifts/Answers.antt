use Rattle.std.proofs.Common.{◌∙◌}
use Rattle.fetch_storage.proofs.Stepping.{shift_more}
use Rattle.fetch_storage.proofs.parts.Parts.shifts.Goals as goal

pub loop-place-preserved : goal.loop-place-preserved
loop-place-preserved c =
    c.in_ok-push.ensures.items
    ∙ shift_more c.args.self.now c.args.items.now c.loop-place.place _ c.loop-place.shifts.items c.shift_of.result c.loop-place-test.true c.loop-place.invariant c.shift_of.ensures
