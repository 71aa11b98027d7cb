use Rattle.std.proofs.Common.{◌≡◌, [], map}
use Rattle.std.specs.List.{range_with_len}
use Rattle.addr_assign.specs.Reach.{next_place}
use Rattle.addr_assign.proofs.placing.starts.Given as goal

abbrev pub invariant-loop-i : goal.invariant-loop-i
invariant-loop-i l = l.starts.items ≡ map (next_place l.t.tree l.origins []) (range_with_len 1 l.i)
