use Rattle.std.proofs.Common.{arith, sym}
use Rattle.addr_assign.proofs.Starts.{end_none, end_whole}
use Rattle.addr_assign.proofs.origins.greatest_end.Goals as goal

pub loop-i-init : goal.loop-i-init
loop-i-init c = sym (end_none c.args.t.now.tree _ c.args.start c.args.region)

pub returns : goal.returns
returns c =
    let count = c.requires.count in let done = c.loop-i-test.false in let in_range = c.loop-i.auto.i-end in
    end_whole c.args.t.now.tree _ c.args.start c.args.region c.loop-i.i c.loop-i.end (omega (arith, count, done, in_range)) c.loop-i.invariant
