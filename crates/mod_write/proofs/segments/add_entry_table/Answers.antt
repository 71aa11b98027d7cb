use Rattle.std.proofs.Common.{◌≡◌, ◌≤◌, ◌++◌, length, sym, subst, ◌∙◌, arith}
use Rattle.std.proofs.lemmas.Result.{on_ok_weaker}
use Rattle.linking_model.specs.Linked.{address_of, block}
use Rattle.linking_model.specs.TableBytes.{entab_bytes}
use Rattle.mod_segments.specs.Writing.{HasPieces}
use Rattle.relocate.specs.Listed.{table_of}
use Rattle.relocate.specs.Ready.{AreSmall}
use Rattle.relocate.proofs.Bounds.{are_small, few_entries}
use Rattle.member_model.specs.Chunks.{part_items}
use Rattle.mod_write.proofs.Assembled.{pieces_by, refilled}
use Rattle.mod_write.proofs.Entries.{table_written}
use Rattle.mod_write.proofs.segments.add_entry_table.Goals as goal

pub placed-part-requires-clause-items : goal.placed-part-requires-clause-items
unfolding part_items
placed-part-requires-clause-items g c = c.deref.ensures.value ∙ c.in_ok-items.ensures

pub entab_bytes-requires-clause-small : goal.entab_bytes-requires-clause-small
entab_bytes-requires-clause-small g c =
    subst (λ p. AreSmall p c.args.from.now.places.now) (sym c.program.ensures.program)
    (are_small c.args.from.now.list.now c.args.from.now.places.now c.requires.source.linked.fit)

pub entab_bytes-requires-clause-few : goal.entab_bytes-requires-clause-few
entab_bytes-requires-clause-few g c =
    subst (λ entries. length (table_of entries c.args.segment) ≤ 340) (sym c.tables.ensures.tables)
    (few_entries c.args.from.now.list.now.entries c.args.segment c.requires.source.can.few)

pub returns-clause-pieces : goal.returns-clause-pieces
returns-clause-pieces g c =
    let P = c.args.from.now.list.now in
    let bytes : c.deref-2.result.now ≡ entab_bytes P (address_of P.program (block P 0)) c.args.segment = c.deref-2.ensures.value
    ∙ (refilled c.in_ok-bytes.bytes.len c.entab_bytes.new.out c.in_ok-bytes.bytes.items (omega (arith, c.entab_bytes.auto.out, c.deref_mut.ensures.len))
    ∙ table_written P c.args.from.now.places.now c.args.segment c.program.result.now c.tables.result.now.entries c.entab_bytes.new.out c.requires.source.can.sound
    c.requires.source.linked.placed.2 c.requires.source.linked.fit.entries c.program.ensures.program c.tables.ensures.tables (c.entab_bytes.ensures P.tree)) in
    on_ok_weaker c.add_table.result
    (λ more before has. subst (λ v. HasPieces c.add_table.new.records (before ++ v))
    (pieces_by c.args.from.now.piece _ _ _ _ _ _ _ _ c.placed-part.ensures.number c.placed-part.ensures.address c.placed-part.ensures.items bytes)
    (more before has))
    c.add_table.ensures.pieces
