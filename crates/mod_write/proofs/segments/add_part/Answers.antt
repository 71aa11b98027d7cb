use Rattle.std.proofs.Common.{◌++◌, sym, subst}
use Rattle.std.proofs.lemmas.Result.{on_ok_weaker}
use Rattle.member_model.specs.Written.{part_pieces}
use Rattle.mod_parts.specs.Seen.{seen}
use Rattle.mod_segments.specs.Writing.{HasPieces}
use Rattle.mod_write.proofs.segments.add_part.Goals as goal

pub returns-in-SegmentTable-clause-pieces : goal.returns-in-SegmentTable-clause-pieces
returns-in-SegmentTable-clause-pieces g c =
    on_ok_weaker c.add_segment_table.result
    (λ more before has. subst (λ x. HasPieces c.add_segment_table.new.records (before ++ part_pieces c.args.from.now.list.now c.args.from.now.piece (seen x))) (sym c.in-SegmentTable.is) (more before has))
    c.add_segment_table.ensures.pieces

pub returns-in-Section-clause-pieces : goal.returns-in-Section-clause-pieces
returns-in-Section-clause-pieces g c =
    on_ok_weaker c.add_text.result
    (λ more before has. subst (λ x. HasPieces c.add_text.new.records (before ++ part_pieces c.args.from.now.list.now c.args.from.now.piece (seen x))) (sym c.in-Section.is) (more before has))
    c.add_text.ensures.pieces

pub returns-in-EntryTable-clause-pieces : goal.returns-in-EntryTable-clause-pieces
returns-in-EntryTable-clause-pieces g c =
    on_ok_weaker c.add_entry_table.result
    (λ more before has. subst (λ x. HasPieces c.add_entry_table.new.records (before ++ part_pieces c.args.from.now.list.now c.args.from.now.piece (seen x))) (sym c.in-EntryTable.is) (more before has))
    c.add_entry_table.ensures.pieces
