use Rattle.std.proofs.Common.{◌≡◌, All, map, take}
use Rattle.sym_edit.specs.Edited.{HasNames}
use Rattle.link_steps.proofs.waiting.WaitingEdits.edits.Given as goal

abbrev pub invariant-loop-waiting : goal.invariant-loop-waiting
invariant-loop-waiting l = (l.edits.items ≡ map (λ w. w.edit) (take l.waiting-index l.waiting-items)) × All HasNames l.edits.items
