use Rattle.std.proofs.Common.{◌≡◌, map}
use Rattle.std.specs.List.{range_with_len}
use Rattle.linking_model.specs.Places.{region_start}
use Rattle.addr_assign.specs.Sizes.{sizes_of}
use Rattle.addr_assign.proofs.origins.region_starts.Given as goal

abbrev pub invariant-loop-region : goal.invariant-loop-region
invariant-loop-region l =
    (l.starts.items ≡ map (region_start l.t.tree (sizes_of l.sizes)) (range_with_len 0 l.region))
    × (l.start ≡ region_start l.t.tree (sizes_of l.sizes) l.region)
