use Rattle.std.proofs.Common.{◌≡◌, flat_map, take}
use Rattle.link_steps.specs.Asked.{asked}
use Rattle.link_steps.proofs.asked.asked_of.Given as goal

abbrev pub invariant-loop-item : goal.invariant-loop-item
invariant-loop-item l = l.all.items ≡ flat_map asked (take l.item-index l.items)
