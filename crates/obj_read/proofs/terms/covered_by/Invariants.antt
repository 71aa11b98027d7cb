use Rattle.std.proofs.Common.{take}
use Rattle.obj_read.specs.Covered.{IsCovered}
use Rattle.obj_read.proofs.terms.covered_by.Given as goal

abbrev pub invariant-loop-k : goal.invariant-loop-k
invariant-loop-k l = IsCovered (take l.k l.terms) l.covered
