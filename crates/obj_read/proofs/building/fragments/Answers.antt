use Rattle.obj_read.specs.Module.{fragment}
use Rattle.obj_read.proofs.Adding.{map_more}
use Rattle.obj_read.proofs.building.fragments.Goals as goal

pub loop-t-preserved : goal.loop-t-preserved
loop-t-preserved c =
    map_more (fragment c.args.items.now) c.args.texts.now c.loop-t.t-index _ c.loop-t.made.items c.push.new.self.items c.in_ok-fragment.field-0
    c.loop-t-test.true c.loop-t.invariant c.in_ok-fragment.ensures c.in_ok-push.ensures.items
