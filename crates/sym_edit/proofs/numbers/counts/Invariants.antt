use Rattle.std.proofs.Common.{◌≡◌, ◌++◌, ◌≤◌, drop}
use Rattle.sym_edit.specs.Counted.{counts_from}
use Rattle.sym_edit.proofs.numbers.counts.Given as goal

abbrev pub invariant-loop-g : goal.invariant-loop-g
invariant-loop-g l = (l.made.items ++ counts_from l.next (drop l.g-index l.gone) ≡ counts_from 0 l.gone) × (l.next ≤ l.g-index)
