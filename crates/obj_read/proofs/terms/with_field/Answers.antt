use Rattle.std.proofs.Common.{◌+◌, ◌∙◌, ap}
use Rattle.obj_read.specs.Covered.{byte_eq, place}
use Rattle.obj_read.specs.Indexed.{or_place}
use Rattle.std.specs.HashMap.{get}
use Rattle.obj_read.proofs.Covered.{byte_more_at}
use Rattle.obj_read.proofs.terms.with_field.Goals as goal

pub loop-i-preserved : goal.loop-i-preserved
loop-i-preserved c = λ s b.
    c.in_ok-covered.ensures s b
    ∙ (ap (λ o. or_place o (byte_eq (place c.args.term.now.p (c.from.result + c.loop-i.i)) (place s b)) c.args.term.now) (c.loop-i.invariant s b)
    ∙ byte_more_at (get byte_eq c.args.covered (place s b)) c.args.term.now s b c.loop-i.i c.from.result c.from.ensures)
