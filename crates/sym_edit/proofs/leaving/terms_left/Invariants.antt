use Rattle.std.proofs.Common.{◌≡◌, ◌++◌, drop, map}
use Rattle.sym_edit.specs.Without.{term_without}
use Rattle.sym_edit.proofs.leaving.terms_left.Given as goal

abbrev pub invariant-loop-t : goal.invariant-loop-t
invariant-loop-t l = l.made ++ map (term_without l.numbers l.items) (drop l.t-index l.terms) ≡ map (term_without l.numbers l.items) l.terms
