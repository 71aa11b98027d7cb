use Rattle.std.proofs.Common.{arith, ◌+◌}
use Rattle.addr_assign.proofs.Starts.{pushed, origins_bound}
use Rattle.addr_assign.proofs.origins.origins.Goals as goal

pub loop-i-preserved : goal.loop-i-preserved
loop-i-preserved c = pushed _ 1 c.loop-i.i (c.loop-i.i + 1) c.origin.result c.loop-i.origins.items c.push.new.self.items c.loop-i.invariant (omega arith) c.origin.ensures c.in_ok-push.ensures.items

pub returns-clause-bounded : goal.returns-clause-bounded
returns-clause-bounded c =
    let count = c.count-count.ensures.count in let done = c.loop-i-test.false in let in_range = c.loop-i.auto.i-end in
    origins_bound c.args.t.now.tree c.args.sizes.now c.loop-i.origins.items c.loop-i.i c.count-count.ensures.tree c.count-count.ensures.small c.requires.bounded (omega (arith, count, done, in_range)) c.loop-i.invariant
