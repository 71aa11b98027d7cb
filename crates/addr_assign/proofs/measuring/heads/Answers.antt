use Rattle.std.proofs.Common.{◌∙◌, []}
use Rattle.addr_assign.specs.Reach.{reach}
use Rattle.addr_assign.proofs.Ranges.{push_range}
use Rattle.addr_assign.proofs.Reaches.{head_is}
use Rattle.addr_assign.proofs.measuring.heads.Goals as goal

pub loop-i-preserved : goal.loop-i-preserved
loop-i-preserved c =
    c.in_ok-push.ensures.items ∙ push_range (reach c.args.t.now.tree []) 1 c.loop-i.i c.head_length.result c.loop-i.heads.items c.loop-i.invariant
    (head_is c.args.t.now.tree c.args.count c.loop-i.i c.head_length.result c.requires c.head_length.ensures.value)
