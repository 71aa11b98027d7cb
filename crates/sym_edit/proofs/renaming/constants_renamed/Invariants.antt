use Rattle.std.proofs.Common.{◌≡◌, ◌++◌, drop, map}
use Rattle.sym_edit.specs.Renamed.{constant_renamed}
use Rattle.sym_edit.proofs.renaming.constants_renamed.Given as goal

abbrev pub invariant-loop-c : goal.invariant-loop-c
invariant-loop-c l = l.made ++ map (constant_renamed l.old l.new) (drop l.c-index l.constants) ≡ map (constant_renamed l.old l.new) l.constants
