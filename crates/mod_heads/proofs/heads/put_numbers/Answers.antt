use Rattle.std.proofs.Common.{◌++◌, ◌∙◌, arith, ap}
use Rattle.byteorder.specs.Endian.{big_bytes}
use Rattle.mod_heads.proofs.Summed.{number_bytes, part_more, parts_all}
use Rattle.mod_heads.proofs.heads.put_numbers.Goals as goal

pub loop-part-preserved : goal.loop-part-preserved
loop-part-preserved c =
    part_more (number_bytes c.args.list.now) c.args.parts.now c.loop-part.part-index _ c.args.bytes.now.items c.loop-part.bytes.items c.extend_from_slice.new.self.items
    c.loop-part-test.true c.loop-part.invariant
    (c.in_ok-extend_from_slice.ensures.items ∙ ap (λ l. c.loop-part.bytes.items ++ l) (c.number_item.ensures ∙ ap (big_bytes 2) c.number_of.ensures))

pub returns : goal.returns
returns c =
    parts_all (number_bytes c.args.list.now) c.args.parts.now c.loop-part.part-index c.args.bytes.now.items c.loop-part.bytes.items
    (omega (arith, c.loop-part-test.false)) c.loop-part.invariant
