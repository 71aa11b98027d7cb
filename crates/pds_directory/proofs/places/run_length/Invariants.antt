use Rattle.std.proofs.Common.{◌≡◌, ◌+◌, drop}
use Rattle.pds_directory.specs.Places.{run_length}
use Rattle.pds_directory.proofs.places.run_length.Given as goal

abbrev pub invariant-loop-i : goal.invariant-loop-i
invariant-loop-i l = l.i + run_length (drop l.i l.places) ≡ run_length l.places
