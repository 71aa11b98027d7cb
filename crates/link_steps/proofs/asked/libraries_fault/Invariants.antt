use Rattle.std.proofs.Common.{◌≡◌, drop}
use Rattle.link_steps.specs.Asked.{libraries_fault}
use Rattle.link_steps.proofs.asked.libraries_fault.Given as goal

abbrev pub invariant-loop-item : goal.invariant-loop-item
invariant-loop-item l = libraries_fault l.sets (drop l.item-index l.items) ≡ libraries_fault l.sets l.items
