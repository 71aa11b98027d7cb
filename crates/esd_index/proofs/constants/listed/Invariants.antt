use Rattle.std.proofs.Common.{◌≡◌, ◌++◌, length}
use Rattle.esd_index.proofs.constants.listed.Given as goal

abbrev pub invariant-loop-spot : goal.invariant-loop-spot
invariant-loop-spot l = l.list.items ++ l.spots.keys ≡ l.fn.spots.keys

abbrev pub decreases-loop-spot : goal.decreases-loop-spot
decreases-loop-spot l = length l.spots.keys
