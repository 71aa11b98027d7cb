use Rattle.std.proofs.Common.{◌+◌, ◌∙◌, arith, ap, map, length, refl}
use Rattle.member_model.specs.Cuts.{together}
use Rattle.mod_parts.specs.Seen.{seen}
use Rattle.mod_parts.proofs.Symbolled.{segments_all}
use Rattle.mod_heads.proofs.Summed.{number_bytes, segment_bytes_more, translated}
use Rattle.mod_heads.proofs.heads.translation_bytes.Goals as goal

pub loop-i-preserved : goal.loop-i-preserved
loop-i-preserved c =
    segment_bytes_more c.args.list.now (number_bytes c.args.list.now) c.loop-i.i (c.loop-i.i + 1) (map seen c.in_segment.result.now)
    c.loop-i.bytes.items c.put_numbers.new.bytes.items refl c.loop-i.invariant c.in_segment.ensures.parts c.in_ok-put_numbers.ensures

pub returns : goal.returns
returns c =
    translated c.args.list.now (c.len.result + c.len-2.result) c.loop-i.bytes.items c.put_label_numbers.new.bytes.items c.put_zeros.new.bytes.items
    (c.loop-i.invariant
    ∙ ap (λ l. together (map (number_bytes c.args.list.now) l))
    (segments_all c.args.list.now c.loop-i.i (omega (arith, c.loop-i-test.false, c.count-i-end.ensures.count, ap length c.tree.ensures.tree))))
    c.in_ok-put_label_numbers.ensures
    (omega (arith, c.len.ensures, c.len-2.ensures, ap (λ p. length p.unresolved) c.program.ensures.program, ap (λ p. length p.registers) c.program-2.ensures.program))
    c.in_ok-put_zeros.ensures
