use Rattle.std.proofs.Common.{◌≡◌, drop, fold}
use Rattle.item_list.specs.Maps.{noted}
use Rattle.item_list.proofs.labels.label_lists.Given as goal

abbrev pub invariant-loop-x : goal.invariant-loop-x
invariant-loop-x l =
    fold (noted l.origin) l.lists.items (drop l.x-index l.symbols) ≡ fold (noted l.origin) l.initial.lists.items l.symbols
