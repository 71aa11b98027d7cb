use Rattle.std.proofs.Common.{◌∙◌}
use Rattle.mod_parts.specs.Seen.{seen}
use Rattle.mod_segments.specs.declared.piece.PlacedPart.{PlacedPart}
use Rattle.mod_write.proofs.Ready.{is_part, ready_by}
use Rattle.mod_write.proofs.segments.placed.Goals as goal

pub returns-clause-part : goal.returns-clause-part
returns-clause-part g c =
    let made : PlacedPart = record { number = c.from.result; address = c.place_of.result; length = c.length_of.result; items = c.args.items } in
    is_part c.args.from.now.list.now c.args.from.now.places.now (seen c.args.part) made (ready_by _ _ _ _ _ c.requires.source) c.requires.part
    (c.from.ensures ∙ c.number_of.ensures) c.place_of.ensures.place c.length_of.ensures.length c.requires.items
