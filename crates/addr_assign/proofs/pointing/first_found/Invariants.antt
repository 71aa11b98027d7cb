use Rattle.std.proofs.Common.{◌≡◌, drop, slice_get, filter_map}
use Rattle.linking_model.specs.Points.{start_point}
use Rattle.addr_assign.proofs.pointing.first_found.Given as goal

abbrev pub invariant-loop-start : goal.invariant-loop-start
invariant-loop-start l = slice_get (filter_map (start_point l.p) (drop l.start-index l.start-items)) 0 ≡ slice_get (filter_map (start_point l.p) l.start-items) 0
