use Rattle.std.proofs.Common.{◌≡◌, map}
use Rattle.std.specs.List.{range_with_len}
use Rattle.relink_list.specs.Segments.{segment_of}
use Rattle.relink_list.proofs.segments.relink_segments.Given as goal

abbrev pub invariant-loop-k : goal.invariant-loop-k
invariant-loop-k l = l.segments ≡ map (segment_of l.tree l.symbols) (range_with_len 2 l.k)
