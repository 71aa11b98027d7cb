use Rattle.std.proofs.Common.{◌≡◌, ◌++◌, drop, map}
use Rattle.sym_edit.specs.Renamed.{item_renamed}
use Rattle.sym_edit.proofs.renaming.items_renamed.Given as goal

abbrev pub invariant-loop-x : goal.invariant-loop-x
invariant-loop-x l = l.made ++ map (item_renamed l.old l.new) (drop l.x-index l.items) ≡ map (item_renamed l.old l.new) l.items
