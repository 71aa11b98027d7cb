use Rattle.std.proofs.Common.{◌≡◌, [], drop, fold, map}
use Rattle.esd_index.specs.Keys.{as_symbol}
use Rattle.esd_index.specs.Contents.{now_of}
use Rattle.esd_lists.specs.Listed.{pushed, unknown_by}
use Rattle.esd_lists.proofs.listing.unknowns.Given as goal

abbrev pub invariant-loop-key : goal.invariant-loop-key
invariant-loop-key l =
    fold (λ xs y. pushed xs (unknown_by (now_of l.index) y)) l.list (map as_symbol (drop l.key-index l.key-items))
    ≡ fold (λ xs y. pushed xs (unknown_by (now_of l.index) y)) [] (map as_symbol l.key-items)
