use Rattle.std.proofs.Common.{◌≡◌, drop, ◌++◌, fold}
use Rattle.linking_model.specs.Kept.{sights_in}
use Rattle.esd_index.specs.Contents.{now_of, marked_of}
use Rattle.esd_index.specs.Steps.{kept_flags, with_seen}
use Rattle.esd_index.proofs.index.Index.keep_items.Given as goal

abbrev pub invariant-loop-number : goal.invariant-loop-number
invariant-loop-number l =
    (l.kept ++ kept_flags (now_of l.self).controls (drop l.number l.items) ≡ kept_flags (now_of l.fn.self).controls l.items)
    × (fold with_seen (now_of l.self) (sights_in l.of_module l.segment l.number (drop l.number l.items)) ≡ fold with_seen (now_of l.fn.self) (sights_in l.of_module l.segment 0 l.items))
    × (marked_of l.self ≡ marked_of l.fn.self)
