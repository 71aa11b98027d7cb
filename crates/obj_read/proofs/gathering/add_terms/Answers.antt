use Rattle.std.proofs.Common.{◌++◌, ◌∷◌, [], get_or}
use Rattle.obj_read.proofs.Adding.{fault_at}
use Rattle.obj_read.proofs.gathering.add_terms.Goals as goal

pub returns-in-Err : goal.returns-in-Err
returns-in-Err c =
    fault_at (c.loop-term.terms ++ get_or c.args.more.now c.loop-term.term-index (record { r = 0; p = 0; flag = 0; address = 0 }) ∷ []) c.add_term.new.terms
    (c.args.terms.now ++ c.args.more.now) c.add_term.new.terms c.args.items.now c.loop-term.terms c.args.more.now c.loop-term.term-index
    (record { r = 0; p = 0; flag = 0; address = 0 }) c.loop-term-test.true c.in-Err.wrong _ c.loop-term.invariant.fault c.in-Err.ensures
