use Rattle.std.proofs.Common.{◌≡◌, drop, map}
use Rattle.esd_index.specs.Keys.{as_symbol}
use Rattle.esd_merge.specs.Calls.{least_place}
use Rattle.esd_merge.proofs.calls.least_place.Given as goal

abbrev pub invariant-loop-key : goal.invariant-loop-key
invariant-loop-key l =
    least_place l.symbols.all l.least (map as_symbol (drop l.key-index l.keys)) ≡ least_place l.symbols.all l.most (map as_symbol l.keys)
