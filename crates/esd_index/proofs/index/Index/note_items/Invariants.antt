use Rattle.std.proofs.Common.{◌≡◌, drop}
use Rattle.linking_model.specs.Kept.{sights_in}
use Rattle.esd_index.specs.Contents.{now_of, marked_of}
use Rattle.esd_index.specs.Steps.{with_sights}
use Rattle.esd_index.proofs.index.Index.note_items.Given as goal

abbrev pub invariant-loop-number : goal.invariant-loop-number
invariant-loop-number l =
    (with_sights l.kept (now_of l.self) (sights_in l.of_module l.segment l.number (drop l.number l.items)) ≡ with_sights l.kept (now_of l.fn.self) (sights_in l.of_module l.segment 0 l.items))
    × (marked_of l.self ≡ marked_of l.fn.self)
