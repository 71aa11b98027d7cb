use Rattle.std.proofs.Common.{◌≡◌, map, take}
use Rattle.std.specs.List.{enumerate_from}
use Rattle.mod_write.proofs.Entries.{entry_item}
use Rattle.mod_write.proofs.items.entry_items.Given as goal

abbrev pub invariant-loop-i : goal.invariant-loop-i
invariant-loop-i l = l.items.items ≡ map (entry_item l.list l.segment) (take l.i (enumerate_from 0 l.entries))
