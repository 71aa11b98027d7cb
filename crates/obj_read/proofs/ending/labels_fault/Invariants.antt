use Rattle.std.proofs.Common.{◌≡◌, drop}
use Rattle.obj_read.specs.Faults.{labels_fault}
use Rattle.obj_read.proofs.ending.labels_fault.Given as goal

abbrev pub invariant-loop-x : goal.invariant-loop-x
invariant-loop-x l = labels_fault l.items (drop l.x-index l.x-items) ≡ labels_fault l.items l.x-items
