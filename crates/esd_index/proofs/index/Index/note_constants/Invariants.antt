use Rattle.std.proofs.Common.{◌≡◌, drop, fold}
use Rattle.esd_index.specs.Contents.{now_of, marked_of}
use Rattle.esd_index.specs.Ordered.{with_spot}
use Rattle.esd_index.proofs.index.Index.note_constants.Given as goal

abbrev pub invariant-loop-spot : goal.invariant-loop-spot
invariant-loop-spot l =
    (fold (with_spot l.items l.constants) (now_of l.self) (drop l.spot-index l.spots) ≡ fold (with_spot l.items l.constants) (now_of l.fn.self) l.spots)
    × (marked_of l.self ≡ marked_of l.fn.self)
