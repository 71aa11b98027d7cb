use Rattle.std.proofs.Common.{◌≡◌, ◌++◌, take, drop}
use Rattle.obj_read.specs.Module.{with_length}
use Rattle.obj_read.proofs.dictionary.give_length.Given as goal

abbrev pub invariant-loop-i : goal.invariant-loop-i
invariant-loop-i l = record {
  same : l.items ≡ l.fn.items;
  rest : take l.i l.items ++ with_length l.length (drop l.i l.items) ≡ with_length l.length l.items;
}
