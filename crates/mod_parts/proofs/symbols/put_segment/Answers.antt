use Rattle.mod_parts.proofs.Symbolled.{part_more, spelled_more}
use Rattle.member_model.specs.SymbolList.{part_symbol}
use Rattle.mod_parts.proofs.symbols.put_segment.Goals as goal

pub loop-part-preserved : goal.loop-part-preserved
loop-part-preserved c = (
  part_more (part_symbol c.args.list.now) c.args.parts.now c.loop-part.part-index _ c.args.items.now.items c.loop-part.items.items c.push.new.self.items c.part_symbol.result
      c.loop-part-test.true c.loop-part.invariant.0 c.part_symbol.ensures.item c.in_ok-push.ensures.items,
  spelled_more c.loop-part.items.items c.push.new.self.items c.part_symbol.result c.loop-part.invariant.1 c.part_symbol.ensures.spelled c.in_ok-push.ensures.items,
)
