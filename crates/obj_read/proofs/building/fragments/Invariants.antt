use Rattle.std.proofs.Common.{◌≡◌, take, map}
use Rattle.obj_read.specs.Module.{fragment}
use Rattle.obj_read.proofs.building.fragments.Given as goal

abbrev pub invariant-loop-t : goal.invariant-loop-t
invariant-loop-t l = l.made.items ≡ map (fragment l.items) (take l.t-index l.texts)
