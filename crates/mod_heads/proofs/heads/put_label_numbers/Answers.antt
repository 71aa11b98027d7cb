use Rattle.std.proofs.Common.{◌++◌, ◌∙◌, arith, ap, length}
use Rattle.byteorder.specs.Endian.{big_bytes}
use Rattle.mod_heads.proofs.Summed.{label_bytes, label_more, items_all}
use Rattle.mod_heads.proofs.heads.put_label_numbers.Goals as goal

pub loop-label-preserved : goal.loop-label-preserved
loop-label-preserved c =
    label_more c.args.list.now c.as_slice-label-items.result.now c.loop-label.label-index _ c.args.bytes.now.items c.loop-label.bytes.items c.extend_from_slice.new.self.items
    (c.as_slice-label-items.ensures ∙ ap (λ p. p.labels) c.program.ensures.program) c.loop-label-test.true c.loop-label.invariant
    (c.in_ok-extend_from_slice.ensures.items ∙ ap (λ l. c.loop-label.bytes.items ++ l) (c.number_item.ensures ∙ ap (big_bytes 2) c.number_of.ensures))

pub returns : goal.returns
returns c =
    items_all (label_bytes c.args.list.now) c.args.list.now.program.labels c.loop-label.label-index c.args.bytes.now.items c.loop-label.bytes.items
    (omega (arith, c.loop-label-test.false, ap length c.as_slice-label-items.ensures, ap (λ p. length p.labels) c.program.ensures.program)) c.loop-label.invariant
