use Rattle.std.proofs.Common.{◌≡◌, ◌++◌, drop}
use Rattle.sym_edit.proofs.copying.terms_copied.Given as goal

abbrev pub invariant-loop-t : goal.invariant-loop-t
invariant-loop-t l = l.made ++ drop l.t-index l.terms ≡ l.terms
