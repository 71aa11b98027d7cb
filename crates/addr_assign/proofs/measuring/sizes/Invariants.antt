use Rattle.std.proofs.Common.{◌≡◌, map}
use Rattle.std.specs.List.{range_with_len}
use Rattle.linking_model.specs.Places.{size}
use Rattle.addr_assign.specs.Reach.{laid}
use Rattle.addr_assign.proofs.measuring.sizes.Given as goal

abbrev pub invariant-loop-i : goal.invariant-loop-i
invariant-loop-i l = l.sizes.items ≡ map (size (laid l.p l.t.tree l.tables.entries)) (range_with_len 1 l.i)
