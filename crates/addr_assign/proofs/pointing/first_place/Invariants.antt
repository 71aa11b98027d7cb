use Rattle.std.proofs.Common.{◌≡◌, false, drop, slice_get, filter_map}
use Rattle.std.specs.List.{list_any}
use Rattle.linking_model.specs.Points.{start_point}
use Rattle.addr_assign.specs.Starts.{is_by_name}
use Rattle.addr_assign.proofs.pointing.first_place.Given as goal

abbrev pub invariant-loop-start : goal.invariant-loop-start
invariant-loop-start l =
    (list_any is_by_name (drop l.start-index l.start-items) ≡ false)
    × (slice_get (filter_map (start_point l.p) (drop l.start-index l.start-items)) 0 ≡ slice_get (filter_map (start_point l.p) l.start-items) 0)
