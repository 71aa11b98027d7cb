-- The counts of a store that keeps one number for all paths.
use Rattle.le_io.specs.declared.tally.Tally.{Tally}
use Rattle.le_io.specs.Counts.{Counts}

abbrev pub counts_of : Tally → Counts
counts_of t =
    record { faults = λ _. t.faults; put_faults = λ _. t.put_faults; misses = λ _. t.misses; longs = λ _. t.longs }
