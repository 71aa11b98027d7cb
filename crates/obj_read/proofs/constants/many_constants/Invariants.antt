use Rattle.std.proofs.Common.{take}
use Rattle.obj_read.specs.Placed.{IsGathered}
use Rattle.obj_read.proofs.constants.many_constants.Given as goal

abbrev pub invariant-loop-k : goal.invariant-loop-k
invariant-loop-k l = IsGathered l.items (take l.k l.terms) l.gathered
