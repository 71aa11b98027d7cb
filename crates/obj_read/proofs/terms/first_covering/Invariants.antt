use Rattle.std.proofs.Common.{◌≡◌, drop}
use Rattle.std.specs.List.{find}
use Rattle.obj_read.specs.Faults.{covers}
use Rattle.obj_read.proofs.terms.first_covering.Given as goal

abbrev pub invariant-loop-f : goal.invariant-loop-f
invariant-loop-f l = find (covers l.section l.byte) (drop l.f-index l.terms) ≡ find (covers l.section l.byte) l.terms
