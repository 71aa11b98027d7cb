use Rattle.std.proofs.Common.{sym, subst, arith}
use Rattle.load_recs.specs.ItemBytes.{SpellsNote}
use Rattle.load_recs.proofs.ItemsSpelled.{note_spelled}
use Rattle.load_recs.proofs.item_reading.note.Goals as goal

pub returns-clause-spelled : goal.returns-clause-spelled
returns-clause-spelled c =
    subst (SpellsNote c.args.item.now) (sym c.note_fields.ensures) (note_spelled c.args.item.now c.requires (λ i. omega (arith, c.type_inv.item i)))
