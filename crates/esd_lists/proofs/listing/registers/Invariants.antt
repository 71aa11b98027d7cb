use Rattle.std.proofs.Common.{◌≡◌, [], drop, fold, map, Some}
use Rattle.std.specs.HashMap.{get}
use Rattle.le_bytes.specs.Names.{name_eq}
use Rattle.esd_index.specs.Keys.{as_symbol}
use Rattle.esd_lists.specs.Gathered.{extent_in}
use Rattle.esd_lists.specs.Listed.{pushed, at_name, register_by}
use Rattle.esd_lists.proofs.listing.registers.Given as goal

abbrev pub invariant-loop-key : goal.invariant-loop-key
invariant-loop-key l =
    fold (λ xs y. pushed xs (at_name (λ y. Some (register_by y (extent_in (get name_eq l.extents y)))) y)) l.list (map as_symbol (drop l.key-index l.key-items))
    ≡ fold (λ xs y. pushed xs (at_name (λ y. Some (register_by y (extent_in (get name_eq l.extents y)))) y)) [] (map as_symbol l.key-items)
