use Rattle.std.proofs.Common.{◌≡◌, ◌+◌, map}
use Rattle.std.specs.List.{range_with_len}
use Rattle.mod_read.specs.Numbering.{kept_before}
use Rattle.mod_read.proofs.numbering.counts_of.Given as goal

abbrev pub invariant-loop-x : goal.invariant-loop-x
invariant-loop-x l = record {
  counted : l.counts.items ≡ map (kept_before l.symbols) (range_with_len 0 (l.x-index + 1));
  count : l.count ≡ kept_before l.symbols l.x-index;
}
