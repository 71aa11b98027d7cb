use Rattle.std.proofs.Common.{rules}
use Rattle.addr_assign.proofs.Maps.{label_back, no_labels}
use Rattle.addr_assign.proofs.pointing.first_labels.Goals as goal

pub loop-done-init : goal.loop-done-init
loop-done-init c = λ n. search (rules, c.in_ok-firsts.ensures.empty, no_labels c.args.labels.now n)

pub loop-done-preserved : goal.loop-done-preserved
loop-done-preserved c = λ n.
    label_back c.args.labels.now c.loop-done.done _ n _ _ c.loop-done-test.true (c.loop-done.invariant n) (c.in_ok-insert.ensures.updates.0 n)
