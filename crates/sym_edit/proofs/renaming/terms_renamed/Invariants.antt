use Rattle.std.proofs.Common.{◌≡◌, ◌++◌, drop, map}
use Rattle.sym_edit.specs.Renamed.{term_renamed}
use Rattle.sym_edit.proofs.renaming.terms_renamed.Given as goal

abbrev pub invariant-loop-t : goal.invariant-loop-t
invariant-loop-t l = l.made ++ map (term_renamed l.old l.new) (drop l.t-index l.terms) ≡ map (term_renamed l.old l.new) l.terms
