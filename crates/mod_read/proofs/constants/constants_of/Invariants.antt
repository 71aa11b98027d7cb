use Rattle.std.proofs.Common.{take}
use Rattle.mod_read.specs.Placed.{IsGathered}
use Rattle.mod_read.proofs.constants.constants_of.Given as goal

abbrev pub invariant-loop-k : goal.invariant-loop-k
invariant-loop-k l = IsGathered l.numbering (take l.k l.items) l.gathered
