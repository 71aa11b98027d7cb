use Rattle.obj_read.specs.Covered.{CoversBytes}
use Rattle.obj_read.proofs.terms.with_field.Given as goal

abbrev pub invariant-loop-i : goal.invariant-loop-i
invariant-loop-i l = CoversBytes l.initial.covered l.covered l.term l.i
