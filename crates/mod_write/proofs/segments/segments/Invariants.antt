use Rattle.std.proofs.Common.{◌≡◌, map, All}
use Rattle.std.specs.List.{range_with_len}
use Rattle.mod_segments.specs.Records.{IsStored}
use Rattle.mod_write.specs.Written.{segment_bytes}
use Rattle.mod_write.proofs.segments.segments.Given as goal

abbrev pub invariant-loop-i : goal.invariant-loop-i
invariant-loop-i g l = record {
  made : l.all.items ≡ map (segment_bytes l.from.list.now l.from.piece) (range_with_len 1 l.i);
  sizes : All (All IsStored) l.all.items;
}
