use Rattle.std.proofs.Common.{◌≡◌, drop}
use Rattle.sym_edit.specs.Edited.{edited, edited_from}
use Rattle.sym_edit.proofs.editing.edited.Given as goal

abbrev pub invariant-loop-at : goal.invariant-loop-at
invariant-loop-at l = edited_from l.at l.now (drop l.at l.e) ≡ edited l.fn.m l.e
