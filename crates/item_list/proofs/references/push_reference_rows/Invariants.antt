use Rattle.std.proofs.Common.{◌≡◌, ◌++◌, drop, map, filter}
use Rattle.item_list.specs.References.{is_constant, reference_row}
use Rattle.item_list.proofs.references.push_reference_rows.Given as goal

abbrev pub invariant-loop-x : goal.invariant-loop-x
invariant-loop-x l =
    l.rows.items ++ map (reference_row l.symbols) (filter (is_constant l.symbols) (drop l.x-index l.items))
    ≡ l.fn.rows.items ++ map (reference_row l.symbols) (filter (is_constant l.symbols) l.items)
