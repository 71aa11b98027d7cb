use Rattle.std.proofs.Common.{◌≡◌, [], map}
use Rattle.std.specs.List.{range_with_len}
use Rattle.addr_assign.specs.Reach.{reach}
use Rattle.addr_assign.proofs.measuring.heads.Given as goal

abbrev pub invariant-loop-i : goal.invariant-loop-i
invariant-loop-i l = l.heads.items ≡ map (reach l.t.tree []) (range_with_len 1 l.i)
