use Rattle.std.proofs.Common.{◌≡◌, ◌++◌, drop}
use Rattle.std.specs.Prelude.{flat_map}
use Rattle.list_text.specs.Maps.{row_line}
use Rattle.list_text.proofs.maps.push_rows.Given as goal

abbrev pub invariant-loop-row : goal.invariant-loop-row
invariant-loop-row l =
    l.out.items ++ flat_map row_line (drop l.row-index l.rows) ≡ l.fn.out.items ++ flat_map row_line l.rows
