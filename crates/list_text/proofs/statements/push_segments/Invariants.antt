use Rattle.std.proofs.Common.{◌≡◌, ◌++◌, drop}
use Rattle.std.specs.Prelude.{flat_map}
use Rattle.list_text.specs.Statements.{segment_texts}
use Rattle.list_text.specs.Forms.{spelled}
use Rattle.list_text.proofs.statements.push_segments.Given as goal

abbrev pub invariant-loop-segment : goal.invariant-loop-segment
invariant-loop-segment l =
    l.out.items ++ flat_map (spelled l.form) (flat_map segment_texts (drop l.segment-index l.segments))
    ≡ l.fn.out.items ++ flat_map (spelled l.form) (flat_map segment_texts l.segments)
