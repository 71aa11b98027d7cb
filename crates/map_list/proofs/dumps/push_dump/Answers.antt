use Rattle.std.proofs.Common.{length, arith}
use Rattle.map_list.proofs.Dumping.{dump_more, begins_within}
use Rattle.map_list.proofs.dumps.push_dump.Goals as goal

pub loop-k-preserved : goal.loop-k-preserved
loop-k-preserved c =
    dump_more _ _ _ c.args.address c.args.b.now c.loop-k.k c.min-end.result c.loop-k.invariant
    (begins_within (length c.args.b.now) c.loop-k.k (omega arith)) c.min-end.ensures c.in_ok-push_dump_line.ensures
