use Rattle.std.proofs.Common.{◌≡◌, length, map, take}
use Rattle.mod_write.proofs.records.counts.Given as goal

abbrev pub invariant-loop-segment : goal.invariant-loop-segment
invariant-loop-segment l = l.counts.items ≡ map length (take l.segment-index l.segments)
