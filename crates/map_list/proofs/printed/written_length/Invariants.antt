use Rattle.std.proofs.Common.{◌≡◌, ◌≤◌, take}
use Rattle.map_list.specs.Printed.{trimmed}
use Rattle.map_list.proofs.printed.written_length.Given as goal

abbrev pub invariant-loop-i : goal.invariant-loop-i
invariant-loop-i l = (take l.written l.text ≡ trimmed (take l.i l.text)) × (l.written ≤ l.i)
