use Rattle.std.proofs.Common.{◌≡◌, length, take}
use Rattle.std.specs.List.{flat_map}
use Rattle.pds_image.specs.Spelling.{record_bytes}
use Rattle.pds_image.specs.Lengths.{capped}
use Rattle.pds_image.proofs.length.records_length.Given as goal

abbrev pub invariant-loop-k : goal.invariant-loop-k
invariant-loop-k l = l.total ≡ capped (length (flat_map (record_bytes l.version) (take l.k l.records)))
