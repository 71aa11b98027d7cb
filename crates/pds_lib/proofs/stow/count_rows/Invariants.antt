use Rattle.std.proofs.Common.{◌≡◌, ℕ, ◌+◌, ◌*◌, ◌≤◌, List, map, drop}
use Rattle.pds_lib.specs.Contents.{record_count}
use Rattle.pds_lib.specs.Stored.{held}
use Rattle.pds_lib.proofs.stow.count_rows.Given as goal

abbrev pub invariant-loop-r : goal.invariant-loop-r
invariant-loop-r l =
    ((image : List ℕ) → l.total + record_count (map (held image l.places l.given) (drop l.r-index l.rows)) ≡ record_count (map (held image l.places l.given) l.rows))
    × (l.total ≤ 16777216 * l.r-index)
