use Rattle.std.proofs.Common.{◌≡◌, map, take, length}
use Rattle.std.specs.List.{range_with_len}
use Rattle.addr_assign.specs.Reach.{reach}
use Rattle.addr_assign.proofs.measuring.reaches.Given as goal

abbrev pub invariant-loop-x : goal.invariant-loop-x
invariant-loop-x l = l.reaches.items ≡ map (reach l.t.tree (take l.x-index l.sections)) (range_with_len 1 (length l.t.tree))
