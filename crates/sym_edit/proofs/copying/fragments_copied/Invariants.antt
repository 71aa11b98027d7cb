use Rattle.std.proofs.Common.{◌≡◌, ◌++◌, drop}
use Rattle.sym_edit.proofs.copying.fragments_copied.Given as goal

abbrev pub invariant-loop-f : goal.invariant-loop-f
invariant-loop-f l = l.made ++ drop l.f-index l.fragments ≡ l.fragments
