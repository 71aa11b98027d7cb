use Rattle.std.proofs.Common.{take}
use Rattle.obj_read.specs.Indexed.{IsIndexed}
use Rattle.obj_read.proofs.dictionary.places_of.Given as goal

abbrev pub invariant-loop-k : goal.invariant-loop-k
invariant-loop-k l = IsIndexed (take l.k l.items) l.places
