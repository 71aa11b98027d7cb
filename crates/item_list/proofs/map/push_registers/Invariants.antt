use Rattle.std.proofs.Common.{◌≡◌, ◌++◌, drop, map, filter}
use Rattle.item_list.specs.Maps.{is_register, register_row}
use Rattle.item_list.proofs.map.push_registers.Given as goal

abbrev pub invariant-loop-x : goal.invariant-loop-x
invariant-loop-x l =
    l.rows.items ++ map register_row (filter is_register (drop l.x-index l.symbols))
    ≡ l.fn.rows.items ++ map register_row (filter is_register l.symbols)
