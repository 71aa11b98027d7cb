use Rattle.std.proofs.Common.{◌≡◌, drop, fold}
use Rattle.esd_index.specs.Contents.{now_of, marked_of}
use Rattle.esd_index.specs.Ordered.{with_kept}
use Rattle.esd_index.proofs.index.Index.note_all_kept.Given as goal

abbrev pub invariant-loop-constant : goal.invariant-loop-constant
invariant-loop-constant l =
    (fold (with_kept l.items l.kept) (now_of l.self) (drop l.constant-index l.constants) ≡ fold (with_kept l.items l.kept) (now_of l.fn.self) l.constants)
    × (marked_of l.self ≡ marked_of l.fn.self)
