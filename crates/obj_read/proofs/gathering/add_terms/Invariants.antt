use Rattle.std.proofs.Common.{◌≡◌, ◌++◌, drop}
use Rattle.obj_read.specs.Faults.{terms_fault}
use Rattle.obj_read.proofs.gathering.add_terms.Given as goal

abbrev pub invariant-loop-term : goal.invariant-loop-term
invariant-loop-term l = record {
  fault : terms_fault l.items l.terms (drop l.term-index l.more) ≡ terms_fault l.items l.fn.terms l.more;
  all : l.terms ++ drop l.term-index l.more ≡ l.fn.terms ++ l.more;
}
