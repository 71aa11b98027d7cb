use Rattle.std.proofs.Common.{◌-◌, ◌≤◌, length}
use Rattle.std.specs.Prelude.{nat_lt}
use Rattle.std.specs.List.{prefix_len}
use Rattle.pds_directory.proofs.directory.number_place.Given as goal

abbrev pub invariant-loop-low : goal.invariant-loop-low
invariant-loop-low l = (l.low ≤ prefix_len (λ e. nat_lt e l.k) l.numbers) × (prefix_len (λ e. nat_lt e l.k) l.numbers ≤ l.high) × (l.high ≤ length l.numbers)

abbrev pub decreases-loop-low : goal.decreases-loop-low
decreases-loop-low l = l.high - l.low
