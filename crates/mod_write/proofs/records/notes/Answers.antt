use Rattle.std.proofs.Common.{length, map, sym, ap, ◌∙◌}
use Rattle.std.proofs.lemmas.Result.{IfOk-weaker}
use Rattle.linking_model.specs.Tree.{segments}
use Rattle.member_model.specs.Written.{segment_records}
use Rattle.mod_write.proofs.Member.{counted, counts_are, noted}
use Rattle.mod_write.proofs.records.notes.Goals as goal

pub note_records-requires-clause-each : goal.note_records-requires-clause-each
note_records-requires-clause-each g c =
    ap length c.deref.ensures.value
    ∙ counted c.args.from.now.list.now c.args.from.now.piece c.args.segments.now c.in_ok-counts.counts.items c.in_ok-counts.ensures c.requires.segments

pub returns-in_ok-counts-clause-value : goal.returns-in_ok-counts-clause-value
returns-in_ok-counts-clause-value g c =
    let P = c.args.from.now.list.now in
    let n = c.args.from.now.piece in
    IfOk-weaker c.note_records.result _ _
    (λ notes are. are (map (segment_records P n) (segments P.tree))
    (counts_are P n ∙ (ap (map length) (sym c.requires.segments) ∙ (sym c.in_ok-counts.ensures ∙ sym c.deref.ensures.value)))
    ∙ noted P n c.args.before c.args.overlay c.if-overlay.true)
    c.note_records.ensures.records
