use Rattle.std.proofs.Common.{◌≡◌, [], drop, fold, map}
use Rattle.std.specs.HashMap.{get}
use Rattle.le_bytes.specs.Names.{name_eq}
use Rattle.esd_index.specs.Keys.{as_symbol}
use Rattle.esd_lists.specs.Listed.{pushed, at_name}
use Rattle.esd_lists.proofs.listing.labels.Given as goal

abbrev pub invariant-loop-key : goal.invariant-loop-key
invariant-loop-key l =
    fold (λ xs y. pushed xs (at_name (get name_eq l.labels) y)) l.list (map as_symbol (drop l.key-index l.key-items))
    ≡ fold (λ xs y. pushed xs (at_name (get name_eq l.labels) y)) [] (map as_symbol l.key-items)
