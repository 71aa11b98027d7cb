use Rattle.std.proofs.Common.{◌≡◌, ◌++◌, map, take}
use Rattle.link_steps.specs.Gathered.{change_edit}
use Rattle.link_steps.proofs.waiting.WaitingEdits.push_changed.Given as goal

abbrev pub invariant-loop-item : goal.invariant-loop-item
invariant-loop-item l = l.self ≡ l.initial.self ++ map (change_edit l.at) (take l.item-index l.items)
