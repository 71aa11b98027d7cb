use Rattle.std.proofs.Common.{◌≡◌, take, map}
use Rattle.obj_read.specs.Module.{symbol}
use Rattle.obj_read.proofs.building.symbols.Given as goal

abbrev pub invariant-loop-x : goal.invariant-loop-x
invariant-loop-x l = l.made.items ≡ map (symbol l.items) (take l.x-index l.x-items)
