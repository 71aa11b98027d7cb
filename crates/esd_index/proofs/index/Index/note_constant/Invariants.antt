use Rattle.std.proofs.Common.{◌≡◌, drop, fold}
use Rattle.esd_index.specs.Contents.{now_of, marked_of}
use Rattle.esd_index.specs.Steps.{with_target}
use Rattle.esd_index.proofs.index.Index.note_constant.Given as goal

abbrev pub invariant-loop-term : goal.invariant-loop-term
invariant-loop-term l =
    (fold (with_target l.items) (now_of l.self) (drop l.term-index l.constant.terms) ≡ fold (with_target l.items) (now_of l.fn.self) l.constant.terms)
    × (marked_of l.self ≡ marked_of l.fn.self)
