use Rattle.addr_assign.proofs.Lowest.{fold_init, fold_step}
use Rattle.addr_assign.proofs.settling.lowest_from.Goals as goal

pub loop-user-init : goal.loop-user-init
loop-user-init c = fold_init c.args.t.now.tree c.args.first c.common-on.result c.args.rest.now c.count-count.ensures.tree c.common-on.ensures

pub loop-user-preserved : goal.loop-user-preserved
loop-user-preserved c =
    fold_step c.args.t.now.tree c.loop-user.on c.common-on-in-loop-user.result c.loop-user.user-index _ c.args.rest.now c.count-count.ensures.tree c.loop-user-test.true
    c.common-on-in-loop-user.ensures c.loop-user.invariant.1
