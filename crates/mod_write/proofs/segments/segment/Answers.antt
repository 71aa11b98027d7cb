use Rattle.std.proofs.Common.{◌++◌, List, get_or, length, map, take, refl, ap, subst, ◌∙◌}
use Rattle.std.specs.Prelude.{flat_map}
use Rattle.std.proofs.lemmas.Result.{IfOk-weaker}
use Rattle.member_model.specs.Pieces.{Piece, ends_at}
use Rattle.member_model.specs.Written.{part_pieces}
use Rattle.mod_parts.specs.Seen.{seen}
use Rattle.mod_parts.specs.declared.part.Part.{Part}
use Rattle.mod_parts.specs.declared.part.Part.TheVariants.{SegmentTable}
use Rattle.mod_segments.specs.Writing.{HasPieces}
use Rattle.mod_write.proofs.Assembled.{parts_more, parts_whole}
use Rattle.mod_write.proofs.segments.segment.Goals as goal

pub loop-part-preserved : goal.loop-part-preserved
loop-part-preserved g c =
    let P = c.args.from.now.list.now in
    let n = c.args.from.now.piece in
    let parts = c.in_segment-parts.result.now in
    let old : List Piece = flat_map (part_pieces P n) (map seen (take c.loop-part.part-index parts)) in
    let part : Part = get_or parts c.loop-part.part-index SegmentTable in
    record {
      made = subst (HasPieces c.add_part.new.records)
          (parts_more P n c.loop-part.part-index parts part SegmentTable old (old ++ part_pieces P n (seen part)) c.loop-part-test.true refl refl refl)
          (c.in_ok-add_part.ensures.pieces old c.loop-part.invariant.made);
      ready = c.in_ok-add_part.ensures.ready;
    }

pub returns-clause-value : goal.returns-clause-value
returns-clause-value g c =
    let P = c.args.from.now.list.now in
    let made : List Piece = flat_map (part_pieces P c.args.from.now.piece) (map seen (take c.loop-part.part-index c.in_segment-parts.result.now)) in
    IfOk-weaker c.end.result _ _
    (λ records are. are made c.loop-part.invariant.made
    ∙ parts_whole P c.args.from.now.piece c.args.s c.loop-part.part-index c.in_segment-parts.result.now made (ends_at c.count.result c.args.s)
    c.in_segment-parts.ensures.parts c.loop-part-test.false refl (ap (λ n. ends_at n c.args.s) (c.count.ensures.count ∙ ap length c.tree.ensures.tree)))
    c.end.ensures.value

pub returns-clause-sizes : goal.returns-clause-sizes
returns-clause-sizes g c =
    IfOk-weaker c.end.result _ _ (λ records are. are _ c.loop-part.invariant.made) c.end.ensures.sizes
