use Rattle.std.proofs.Common.{◌≡◌, ◌++◌, drop, map}
use Rattle.sym_edit.specs.Without.{remaining, item_without}
use Rattle.sym_edit.proofs.leaving.items_left.Given as goal

abbrev pub invariant-loop-at : goal.invariant-loop-at
invariant-loop-at l =
    l.made ++ map (item_without l.numbers) (remaining (drop l.at l.gone) (drop l.at l.items))
    ≡ map (item_without l.numbers) (remaining l.gone l.items)
