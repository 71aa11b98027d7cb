use Rattle.std.proofs.Common.{◌≡◌, ◌≤◌, ◌+◌, ◌++◌, length, drop}
use Rattle.obj_read.specs.Facts.{numbered}
use Rattle.obj_read.specs.Faults.{items_fault}
use Rattle.obj_read.proofs.gathering.add_items.Given as goal

abbrev pub invariant-loop-item : goal.invariant-loop-item
invariant-loop-item l = record {
  fault : items_fault l.items (numbered l.next (drop l.item-index l.more)) ≡ items_fault l.fn.items (numbered l.fn.esdid l.more);
  all : l.items ++ numbered l.next (drop l.item-index l.more) ≡ l.fn.items ++ numbered l.fn.esdid l.more;
  grown : length l.items ≡ length l.fn.items + l.item-index;
  few : l.next ≤ l.fn.esdid + l.item-index;
}
