use Rattle.std.proofs.Common.{◌≡◌, ◌+◌, drop}
use Rattle.pds_image.specs.Image.{records_in}
use Rattle.pds_image.proofs.members.count_records.Given as goal

abbrev pub invariant-loop-e : goal.invariant-loop-e
invariant-loop-e l = l.total + records_in l.library (drop l.e-index l.e-items) ≡ records_in l.library l.e-items
