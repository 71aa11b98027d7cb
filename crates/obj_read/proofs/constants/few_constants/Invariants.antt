use Rattle.std.proofs.Common.{◌≡◌, [], map, take}
use Rattle.obj_read.specs.Module.{constant, leaders}
use Rattle.obj_read.proofs.constants.few_constants.Given as goal

abbrev pub invariant-loop-k : goal.invariant-loop-k
invariant-loop-k l = l.made.items ≡ map (constant l.items l.terms) (leaders [] (take l.k l.terms))
