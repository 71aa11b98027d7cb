use Rattle.std.proofs.Common.{◌<◌, ◌+◌, ◌++◌, ◌∙◌, arith, ap, length, refl, get_or}
use Rattle.load_recs.specs.ItemBytes.{note_bytes}
use Rattle.member_model.specs.Written.{note_record_count}
use Rattle.mod_heads.proofs.Summed.{notes_from, notes_begin, note_more, notes_end, first_same, after_same}
use Rattle.mod_heads.proofs.notes.notes_bytes.Goals as goal

pub loop-i-init : goal.loop-i-init
loop-i-init c = record {
  number = c.first_number-number.ensures.near;
  bytes = notes_begin c.args.list.now c.first_number-number.result (c.args.before + note_record_count c.args.list.now + 1) c.args.counts.now c.new-bytes.result.items
      (first_same c.args.before c.count-count.result (length c.args.list.now.tree) c.first_number-number.result c.first_number-number.ensures.number (c.count-count.ensures.count ∙ ap length c.tree.ensures.tree))
      c.new-bytes.ensures.items;
}

pub loop-i-preserved : goal.loop-i-preserved
loop-i-preserved c =
    let low : c.loop-i.i < length c.args.counts.now = omega (arith, c.loop-i-test.true, c.count-count.ensures.count, ap length c.tree.ensures.tree, c.requires.each) in
    record {
      number = c.number_after-number.ensures.near;
      bytes = note_more c.args.list.now c.loop-i.number c.number_after-number.result c.loop-i.i (c.loop-i.i + 1) (c.loop-i.i + 1 + 1) c.args.counts.now c.loop-i.bytes.items c.put_note.new.bytes.items
          (notes_from c.args.list.now (c.args.before + note_record_count c.args.list.now + 1) 1 c.args.counts.now) low refl refl
          (after_same c.loop-i.number (get_or c.args.counts.now c.loop-i.i 0) c.number_after-number.result c.number_after-number.ensures.number)
          c.loop-i.invariant.bytes (c.in_ok-put_note.ensures ∙ ap (λ n. c.loop-i.bytes.items ++ note_bytes n) c.note.ensures.note);
    }

pub returns-clause-items : goal.returns-clause-items
returns-clause-items c =
    notes_end c.args.list.now c.loop-i.number (c.loop-i.i + 1) c.loop-i.i c.args.counts.now c.loop-i.bytes.items
    (notes_from c.args.list.now (c.args.before + note_record_count c.args.list.now + 1) 1 c.args.counts.now)
    (omega (arith, c.loop-i-test.false, c.count-count.ensures.count, ap length c.tree.ensures.tree, c.requires.each)) c.loop-i.invariant.bytes
