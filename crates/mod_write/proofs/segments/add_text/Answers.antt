use Rattle.std.proofs.Common.{◌++◌, sym, subst, ◌∙◌}
use Rattle.std.proofs.lemmas.Result.{on_ok_weaker}
use Rattle.linking_model.specs.Linked.{block}
use Rattle.member_model.specs.Chunks.{part_items}
use Rattle.mod_segments.specs.Writing.{HasPieces}
use Rattle.mod_write.proofs.Assembled.{section_long, section_text, pieces_by, text_pieces}
use Rattle.mod_write.proofs.segments.add_text.Goals as goal

pub placed-part-requires-clause-items : goal.placed-part-requires-clause-items
unfolding part_items
placed-part-requires-clause-items g c = c.deref.ensures.value ∙ c.in_ok-fill_section_items-in-Sd.ensures

pub add_section-requires-clause-whole : goal.add_section-requires-clause-whole
add_section-requires-clause-whole g c =
    let P = c.args.from.now.list.now in
    section_long P (block P 0) (g.K.TextKeeper.content c.args.from.now.kept.now) c.args.section c.requires.source.linked.text c.requires.there ∙ sym c.placed-part.ensures.length

pub returns-in_ok-fill_section_items-in-Sd : goal.returns-in_ok-fill_section_items-in-Sd
returns-in_ok-fill_section_items-in-Sd g c =
    let P = c.args.from.now.list.now in
    let i = c.args.section in
    let text = section_text P (block P 0) (g.K.TextKeeper.content c.args.from.now.kept.now) i c.requires.source.linked.text c.requires.there in
    record {
      pieces = on_ok_weaker c.add_section.result
          (λ more before has. subst (λ v. HasPieces c.add_section.new.records (before ++ v))
          (pieces_by c.args.from.now.piece _ _ _ _ _ _ _ _ c.placed-part.ensures.number c.placed-part.ensures.address c.placed-part.ensures.items text
          ∙ text_pieces P i c.kind_of.result _ c.kind_of.ensures c.in-Sd.is)
          (more before has))
          c.add_section.ensures.pieces;
      ready = c.add_section.ensures.ready;
    }
