use Rattle.std.proofs.Common.{◌≡◌, ◌++◌, drop, length}
use Rattle.member_model.specs.Placing.{sections_of}
use Rattle.fetch_places.specs.Extents.{extents_at}
use Rattle.fetch_places.proofs.fitting.extents_at.Given as goal

abbrev pub invariant-loop-item : goal.invariant-loop-item
invariant-loop-item l =
    extents_at l.addresses (sections_of l.items)
    ≡ l.extents.items ++ extents_at (drop (length l.extents.items) l.addresses) (sections_of (drop l.item-index l.items))
