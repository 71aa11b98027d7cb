use Rattle.std.proofs.Common.{◌≤◌, ◌+◌, ◌*◌, map, take}
use Rattle.map_list.specs.Printed.{decimal, fields}
use Rattle.list_text.specs.Pieces.{Puts}
use Rattle.list_text.proofs.events.put_numbers.Given as goal

abbrev pub invariant-loop-n : goal.invariant-loop-n
invariant-loop-n l = record {
  puts : Puts l.fn.line l.at (fields (map decimal (take l.n-index l.numbers))) l.line l.end;
  short : l.end ≤ l.at + 4 * l.n-index;
}
