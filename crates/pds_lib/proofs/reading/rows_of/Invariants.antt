use Rattle.std.proofs.Common.{◌≡◌, map, take}
use Rattle.pds_lib.specs.Rows.{row_of}
use Rattle.pds_lib.proofs.reading.rows_of.Given as goal

abbrev pub invariant-loop-x : goal.invariant-loop-x
invariant-loop-x l = l.rows.items ≡ map (row_of l.places l.d.entries) (take l.x-index l.d.entries)
