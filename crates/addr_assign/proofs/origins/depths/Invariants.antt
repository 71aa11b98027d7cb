use Rattle.std.proofs.Common.{◌≡◌, map}
use Rattle.std.specs.List.{range_with_len}
use Rattle.linking_model.specs.Places.{depth}
use Rattle.addr_assign.specs.Sizes.{sizes_of}
use Rattle.addr_assign.proofs.origins.depths.Given as goal

abbrev pub invariant-loop-i : goal.invariant-loop-i
invariant-loop-i l = l.depths.items ≡ map (depth l.t.tree (sizes_of l.sizes)) (range_with_len 1 l.i)
