use Rattle.std.proofs.Common.{◌+◌, ◌++◌, ◌∙◌, arith, ap, map, length, refl}
use Rattle.mod_parts.proofs.Symbolled.{segment_items_more, segments_all}
use Rattle.mod_parts.specs.Seen.{seen}
use Rattle.member_model.specs.SymbolList.{part_symbol}
use Rattle.mod_parts.proofs.symbols.put_parts.Goals as goal

pub loop-i-preserved : goal.loop-i-preserved
loop-i-preserved c = (
  segment_items_more c.args.list.now (part_symbol c.args.list.now) c.loop-i.i (c.loop-i.i + 1) (map seen c.in_segment.result.now)
      c.args.items.now.items c.loop-i.items.items c.put_segment.new.items.items refl c.loop-i.invariant.0 c.in_segment.ensures.parts c.in_ok-put_segment.ensures.items,
  c.in_ok-put_segment.ensures.spelled,
)

pub returns-clause-items : goal.returns-clause-items
returns-clause-items c =
    c.loop-i.invariant.0
    ∙ ap (λ l. c.args.items.now.items ++ map (part_symbol c.args.list.now) l)
    (segments_all c.args.list.now c.loop-i.i (omega (arith, c.loop-i-test.false, c.count-i-end.ensures.count, ap length c.tree.ensures.tree)))
