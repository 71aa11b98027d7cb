use Rattle.std.proofs.Common.{◌≡◌, ◌≤◌, drop, length}
use Rattle.esd_index.specs.Sorted.{sorted_from}
use Rattle.esd_index.proofs.constants.kept_spots.Given as goal

abbrev pub invariant-loop-place : goal.invariant-loop-place
invariant-loop-place l = (l.place ≤ length l.constants) × (l.spots.keys ≡ sorted_from l.kept l.place (drop l.place l.constants))

abbrev pub decreases-loop-place : goal.decreases-loop-place
decreases-loop-place l = l.place
