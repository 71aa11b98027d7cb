use Rattle.std.proofs.Common.{◌+◌, ◌∙◌, arith, ap, map, length, refl}
use Rattle.member_model.specs.Cuts.{together}
use Rattle.mod_parts.specs.Seen.{seen}
use Rattle.mod_parts.proofs.Symbolled.{segments_all}
use Rattle.mod_heads.proofs.Summed.{address_bytes, segment_bytes_more}
use Rattle.mod_heads.proofs.heads.scatter_bytes.Goals as goal

pub loop-i-preserved : goal.loop-i-preserved
loop-i-preserved c =
    segment_bytes_more c.args.list.now (address_bytes c.args.list.now) c.loop-i.i (c.loop-i.i + 1) (map seen c.in_segment.result.now)
    c.loop-i.bytes.items c.put_addresses.new.bytes.items refl c.loop-i.invariant c.in_segment.ensures.parts c.in_ok-put_addresses.ensures

pub returns : goal.returns
returns c =
    c.loop-i.invariant
    ∙ ap (λ l. together (map (address_bytes c.args.list.now) l))
    (segments_all c.args.list.now c.loop-i.i (omega (arith, c.loop-i-test.false, c.count-i-end.ensures.count, ap length c.tree.ensures.tree)))
