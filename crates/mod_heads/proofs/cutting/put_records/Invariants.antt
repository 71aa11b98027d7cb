use Rattle.std.proofs.Common.{◌≡◌, ◌++◌, map, All}
use Rattle.std.specs.List.{range_with_len}
use Rattle.load_recs.specs.Records.{rec_bytes}
use Rattle.mod_segments.specs.Records.{IsStored}
use Rattle.mod_heads.specs.Cut.{cut_record}
use Rattle.mod_heads.proofs.cutting.put_records.Given as goal

abbrev pub invariant-loop-k : goal.invariant-loop-k
invariant-loop-k l = record {
  records : l.records ≡ l.fn.records ++ map rec_bytes (map (cut_record l.kind l.items) (range_with_len 0 l.k));
  sizes : All IsStored l.records;
}
