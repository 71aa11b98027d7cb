use Rattle.std.proofs.Common.{◌-◌, ◌≤◌, length}
use Rattle.pds_directory.specs.Order.{place_of}
use Rattle.pds_lib.specs.Stored.{row_name}
use Rattle.pds_lib.proofs.table.place_of.Given as goal

abbrev pub invariant-loop-low : goal.invariant-loop-low
invariant-loop-low l = (l.low ≤ place_of row_name l.rows l.n) × (place_of row_name l.rows l.n ≤ l.high) × (l.high ≤ length l.rows)

abbrev pub decreases-loop-low : goal.decreases-loop-low
decreases-loop-low l = l.high - l.low
