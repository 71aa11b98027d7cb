use Rattle.std.proofs.Common.{◌≡◌, ◌++◌, take}
use Rattle.std.specs.List.{flat_map}
use Rattle.pds_image.specs.Spelling.{record_bytes}
use Rattle.pds_image.proofs.members.put_records.Given as goal

abbrev pub invariant-loop-k : goal.invariant-loop-k
invariant-loop-k l = l.out.items ≡ l.fn.out.items ++ flat_map (record_bytes l.version) (take l.k l.records)
