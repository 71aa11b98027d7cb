use Rattle.std.proofs.Common.{arith, ◌+◌}
use Rattle.addr_assign.proofs.Starts.{pushed}
use Rattle.addr_assign.proofs.origins.depths.Goals as goal

pub loop-i-preserved : goal.loop-i-preserved
loop-i-preserved c = pushed _ 1 c.loop-i.i (c.loop-i.i + 1) c.depth-depth.result c.loop-i.depths.items c.push.new.self.items c.loop-i.invariant (omega arith) c.depth-depth.ensures c.in_ok-push.ensures.items
