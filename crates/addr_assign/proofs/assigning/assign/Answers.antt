use Rattle.std.proofs.Common.{rules, ◌∙◌, ap}
use Rattle.linking_model.specs.Points.{displacements, registers_end}
use Rattle.addr_assign.specs.Reach.{laid}
use Rattle.addr_assign.proofs.Assigned.{origins_long, sections_are, tables_are, sections_fit, tables_fit, origins_fit, ends_fit, length_is, length_fits, places_are}
use Rattle.addr_assign.proofs.assigning.assign.Goals as goal

pub addresses-requires-clause-each : goal.addresses-requires-clause-each
addresses-requires-clause-each c =
    origins_long (laid c.args.p.now c.args.t.now.tree c.args.tables.now.entries) c.deref-2.result.now (c.deref-2.ensures.value ∙ c.in_ok-spans.ensures.origins)

pub narrowed-requires : goal.narrowed-requires
narrowed-requires c =
    sections_fit (laid c.args.p.now c.args.t.now.tree c.args.tables.now.entries) c.deref-3.result.now (length_fits (laid c.args.p.now c.args.t.now.tree c.args.tables.now.entries) c.in_ok-spans.spans.ends.items c.deref.result.now c.greatest-length.result c.deref.ensures.value c.in_ok-spans.ensures.ends c.greatest-length.ensures c.if-length-gt-MOST_BYTES.false) c.requires.in_tree
    (c.deref-3.ensures.value ∙ (sections_are (laid c.args.p.now c.args.t.now.tree c.args.tables.now.entries) c.deref-2.result.now c.in_ok-at.at.sections.items c.as_slice-2.result.now c.as_slice-2.ensures c.requires.in_tree (c.deref-2.ensures.value ∙ c.in_ok-spans.ensures.origins) c.in_ok-at.ensures.sections))

pub narrowed-requires-2 : goal.narrowed-requires-2
narrowed-requires-2 c =
    tables_fit (laid c.args.p.now c.args.t.now.tree c.args.tables.now.entries) c.deref-4.result.now (length_fits (laid c.args.p.now c.args.t.now.tree c.args.tables.now.entries) c.in_ok-spans.spans.ends.items c.deref.result.now c.greatest-length.result c.deref.ensures.value c.in_ok-spans.ensures.ends c.greatest-length.ensures c.if-length-gt-MOST_BYTES.false)
    (c.deref-4.ensures.value ∙ (tables_are (laid c.args.p.now c.args.t.now.tree c.args.tables.now.entries) c.deref-2.result.now c.in_ok-at.at.tables.items c.as_slice-2.result.now c.as_slice-2.ensures (c.deref-2.ensures.value ∙ c.in_ok-spans.ensures.origins) c.in_ok-at.ensures.tables))

pub narrowed-requires-3 : goal.narrowed-requires-3
narrowed-requires-3 c =
    origins_fit (laid c.args.p.now c.args.t.now.tree c.args.tables.now.entries) c.deref-5.result.now (length_fits (laid c.args.p.now c.args.t.now.tree c.args.tables.now.entries) c.in_ok-spans.spans.ends.items c.deref.result.now c.greatest-length.result c.deref.ensures.value c.in_ok-spans.ensures.ends c.greatest-length.ensures c.if-length-gt-MOST_BYTES.false) (c.deref-5.ensures.value ∙ c.in_ok-spans.ensures.origins)

pub narrowed-requires-4 : goal.narrowed-requires-4
narrowed-requires-4 c =
    ends_fit (laid c.args.p.now c.args.t.now.tree c.args.tables.now.entries) c.deref-6.result.now (length_fits (laid c.args.p.now c.args.t.now.tree c.args.tables.now.entries) c.in_ok-spans.spans.ends.items c.deref.result.now c.greatest-length.result c.deref.ensures.value c.in_ok-spans.ensures.ends c.greatest-length.ensures c.if-length-gt-MOST_BYTES.false) (c.deref-6.ensures.value ∙ c.in_ok-spans.ensures.ends)

pub returns : goal.returns
returns c = (
  search rules,
  (length_fits (laid c.args.p.now c.args.t.now.tree c.args.tables.now.entries) c.in_ok-spans.spans.ends.items c.deref.result.now c.greatest-length.result c.deref.ensures.value c.in_ok-spans.ensures.ends c.greatest-length.ensures c.if-length-gt-MOST_BYTES.false),
  places_are (laid c.args.p.now c.args.t.now.tree c.args.tables.now.entries) c.in_ok-narrowed.field-0 c.in_ok-narrowed-2.field-0 c.in_ok-narrowed-3.field-0 c.in_ok-narrowed-4.field-0 c.from_vec.result c.registers_end-total.result c.greatest-length.result
      (c.in_ok-narrowed.ensures ∙ (c.deref-3.ensures.value ∙ (sections_are (laid c.args.p.now c.args.t.now.tree c.args.tables.now.entries) c.deref-2.result.now c.in_ok-at.at.sections.items c.as_slice-2.result.now c.as_slice-2.ensures c.requires.in_tree (c.deref-2.ensures.value ∙ c.in_ok-spans.ensures.origins) c.in_ok-at.ensures.sections)))
      (c.in_ok-narrowed-2.ensures ∙ (c.deref-4.ensures.value ∙ (tables_are (laid c.args.p.now c.args.t.now.tree c.args.tables.now.entries) c.deref-2.result.now c.in_ok-at.at.tables.items c.as_slice-2.result.now c.as_slice-2.ensures (c.deref-2.ensures.value ∙ c.in_ok-spans.ensures.origins) c.in_ok-at.ensures.tables)))
      (c.in_ok-narrowed-3.ensures ∙ (c.deref-5.ensures.value ∙ c.in_ok-spans.ensures.origins))
      (c.in_ok-narrowed-4.ensures ∙ (c.deref-6.ensures.value ∙ c.in_ok-spans.ensures.ends))
      (c.from_vec.ensures ∙ (c.in_ok-register_places.ensures ∙ ap (λ l. displacements 0 l) c.as_slice-3.ensures))
      (c.registers_end-total.ensures ∙ ap (λ l. registers_end 0 l) c.as_slice.ensures)
      (length_is (laid c.args.p.now c.args.t.now.tree c.args.tables.now.entries) c.in_ok-spans.spans.ends.items c.deref.result.now c.greatest-length.result c.deref.ensures.value c.in_ok-spans.ensures.ends c.greatest-length.ensures),
)
