use Rattle.std.proofs.Common.{rules}
use Rattle.addr_assign.proofs.Maps.{insert_back, no_inserts}
use Rattle.addr_assign.proofs.settling.first_inserts.Goals as goal

pub loop-done-init : goal.loop-done-init
loop-done-init c = λ n. search (rules, c.new-moves.ensures.empty, no_inserts c.args.inserts.now n)

pub loop-done-preserved : goal.loop-done-preserved
loop-done-preserved c = λ n.
    insert_back c.args.inserts.now c.loop-done.done _ n _ _ c.loop-done-test.true (c.loop-done.invariant n) (c.in_ok-insert.ensures.updates.0 n)
