use Rattle.std.proofs.Common.{rules, [], ◌∙◌, refl}
use Rattle.addr_assign.specs.Reach.{next_place}
use Rattle.addr_assign.proofs.Ranges.{push_range}
use Rattle.addr_assign.proofs.Nexts.{start_is}
use Rattle.addr_assign.proofs.placing.starts.Goals as goal

pub loop-i-preserved : goal.loop-i-preserved
loop-i-preserved c =
    c.in_ok-push.ensures.items
    ∙ push_range (next_place c.args.t.now.tree c.args.origins.now []) 1 c.loop-i.i _ c.loop-i.starts.items c.loop-i.invariant
    (start_is c.args.t.now.tree c.args.origins.now c.args.count c.loop-i.i _ c.head_length.result c.round8.result _ c.requires.count c.head_length.ensures.value c.round8.ensures (search rules) refl)
