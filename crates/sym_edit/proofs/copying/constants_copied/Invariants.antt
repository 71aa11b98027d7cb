use Rattle.std.proofs.Common.{◌≡◌, ◌++◌, drop}
use Rattle.sym_edit.proofs.copying.constants_copied.Given as goal

abbrev pub invariant-loop-c : goal.invariant-loop-c
invariant-loop-c l = l.made ++ drop l.c-index l.constants ≡ l.constants
