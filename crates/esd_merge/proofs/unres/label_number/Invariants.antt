use Rattle.std.proofs.Common.{◌≡◌, ◌≤◌, drop, map}
use Rattle.esd_index.specs.Contents.{now_of}
use Rattle.esd_index.specs.Keys.{as_symbol}
use Rattle.esd_merge.specs.Rest.{label_from}
use Rattle.esd_merge.proofs.unres.label_number.Given as goal

abbrev pub invariant-loop-key : goal.invariant-loop-key
invariant-loop-key l =
    (label_from (now_of l.index) l.name l.number (map as_symbol (drop l.key-index l.key-items)) ≡ label_from (now_of l.index) l.name 0 (map as_symbol l.key-items))
    × (l.number ≤ l.key-index)
