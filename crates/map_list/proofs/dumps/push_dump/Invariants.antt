use Rattle.std.proofs.Common.{◌≡◌, ◌++◌}
use Rattle.map_list.specs.Dumps.{dump_lines}
use Rattle.map_list.proofs.dumps.push_dump.Given as goal

abbrev pub invariant-loop-k : goal.invariant-loop-k
invariant-loop-k l = l.out.items ≡ l.fn.out.items ++ dump_lines l.address l.b l.k
