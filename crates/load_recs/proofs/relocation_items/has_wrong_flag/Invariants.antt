use Rattle.std.proofs.Common.{◌≡◌, length}
use Rattle.load_recs.specs.Relocations.{is_wrong_after, has_wrong_flag, rlds_of}
use Rattle.load_recs.specs.RldItems.{items_left}
use Rattle.load_recs.proofs.relocation_items.has_wrong_flag.Given as goal

abbrev pub invariant-loop-item : goal.invariant-loop-item
invariant-loop-item l = is_wrong_after l.joined (items_left l.items) ≡ has_wrong_flag (rlds_of l.b)

abbrev pub decreases-loop-item : goal.decreases-loop-item
decreases-loop-item l = length l.items.rest.now
