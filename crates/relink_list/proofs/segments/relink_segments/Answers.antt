use Rattle.relink_list.proofs.Beginning.{segments_more}
use Rattle.relink_list.proofs.segments.relink_segments.Goals as goal

pub loop-k-preserved : goal.loop-k-preserved
loop-k-preserved c =
    segments_more c.args.tree.now c.args.symbols.now c.loop-k.k c.loop-k.segments _ _ c.loop-k.invariant
    c.in_ok-segment.ensures c.in_ok-push.ensures.ok
