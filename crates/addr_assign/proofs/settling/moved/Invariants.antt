use Rattle.std.proofs.Common.{◌≡◌, ◌++◌, map, take, drop}
use Rattle.addr_assign.specs.Maps.{moved}
use Rattle.addr_assign.proofs.settling.moved.Given as goal

abbrev pub invariant-loop-i : goal.invariant-loop-i
invariant-loop-i l = l.list.items ≡ map (moved l.t.tree l.inserts) (take l.i l.initial.list.items) ++ drop l.i l.initial.list.items
