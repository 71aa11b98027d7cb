use Rattle.std.proofs.Common.{◌≡◌}
use Rattle.addr_assign.specs.Sizes.{sizes_of, end_among}
use Rattle.addr_assign.proofs.origins.greatest_end.Given as goal

abbrev pub invariant-loop-i : goal.invariant-loop-i
invariant-loop-i l = l.end ≡ end_among l.t.tree (sizes_of l.sizes) l.start l.region l.i
