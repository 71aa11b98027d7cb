use Rattle.std.proofs.Common.{◌≡◌, ◌++◌, drop}
use Rattle.std.specs.List.{filter_map}
use Rattle.sym_edit.specs.Without.{constant_without}
use Rattle.sym_edit.proofs.leaving.constants_left.Given as goal

abbrev pub invariant-loop-c : goal.invariant-loop-c
invariant-loop-c l =
    l.made ++ filter_map (constant_without l.numbers l.items) (drop l.c-index l.constants)
    ≡ filter_map (constant_without l.numbers l.items) l.constants
