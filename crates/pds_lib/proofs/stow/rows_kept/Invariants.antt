use Rattle.std.proofs.Common.{◌≡◌, ◌≤◌, length, take}
use Rattle.std.specs.Prelude.{filter}
use Rattle.pds_lib.specs.declared.table.Row.{Row}
use Rattle.pds_lib.specs.Stow.{stays}
use Rattle.pds_lib.proofs.stow.rows_kept.Given as goal

abbrev pub invariant-loop-r : goal.invariant-loop-r
invariant-loop-r l =
    (l.kept.items ≡ filter (λ (r : Row). stays l.m l.replace r.entry) (take l.r-index l.rows))
    × (length l.kept.items ≤ l.r-index)
