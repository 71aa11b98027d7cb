use Rattle.std.proofs.Common.{◌≡◌, ◌-◌, ◌+◌, ◌≤◌, length}
use Rattle.pds_directory.specs.Places.{records_from, records_of}
use Rattle.pds_directory.proofs.places.read_records.Given as goal

abbrev pub invariant-loop-k : goal.invariant-loop-k
invariant-loop-k l =
    (l.at ≤ length l.image)
    × (length l.places.items ≤ l.k)
    × (records_from (l.h.records - l.k) l.h l.image (l.k + 1) l.at l.places.items ≡ records_of l.h l.image)
