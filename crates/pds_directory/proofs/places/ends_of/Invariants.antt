use Rattle.std.proofs.Common.{◌≡◌, ◌+◌, ◌++◌, drop}
use Rattle.pds_directory.specs.Places.{ends_from}
use Rattle.pds_directory.proofs.places.ends_of.Given as goal

abbrev pub invariant-loop-i : goal.invariant-loop-i
invariant-loop-i l = l.ends.items ++ ends_from (l.i + 1) (drop l.i l.places) ≡ ends_from 1 l.places
