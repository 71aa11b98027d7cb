use Rattle.std.proofs.Common.{◌≡◌, ◌++◌, ◌+◌, drop, flat_map}
use Rattle.std.specs.List.{enumerate_from}
use Rattle.item_list.specs.Maps.{rows_of}
use Rattle.item_list.proofs.map.section_rows.Given as goal

abbrev pub invariant-loop-k : goal.invariant-loop-k
invariant-loop-k l =
    l.rows.items ++ flat_map (rows_of l.origin l.symbols) (enumerate_from (l.k + 1) (drop l.k l.symbols))
    ≡ flat_map (rows_of l.origin l.symbols) (enumerate_from 1 l.symbols)
