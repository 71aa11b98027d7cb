use Rattle.std.proofs.Common.{◌≡◌, ◌+◌, map}
use Rattle.std.specs.List.{range_with_len}
use Rattle.addr_assign.specs.Sizes.{sizes_of}
use Rattle.addr_assign.proofs.placing.ends.Given as goal

abbrev pub invariant-loop-i : goal.invariant-loop-i
invariant-loop-i l = l.ends.items ≡ map (λ s. sizes_of l.origins s + sizes_of l.sizes s) (range_with_len 1 l.i)
