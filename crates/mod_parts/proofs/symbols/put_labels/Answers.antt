use Rattle.std.proofs.Common.{◌∙◌, ap}
use Rattle.mod_parts.proofs.Symbolled.{item_more, spelled_more}
use Rattle.member_model.specs.SymbolList.{label_symbol}
use Rattle.mod_parts.proofs.symbols.put_labels.Goals as goal

pub loop-label-preserved : goal.loop-label-preserved
loop-label-preserved c = (
  item_more (label_symbol c.args.list.now) c.args.list.now.program.labels c.as_slice-label-items.result.now c.loop-label.label-index _
      c.args.items.now.items c.loop-label.items.items c.push.new.self.items c.label_symbol.result
      (c.as_slice-label-items.ensures ∙ ap (λ p. p.labels) c.program.ensures.program)
      c.loop-label-test.true c.loop-label.invariant.0 c.label_symbol.ensures.item c.in_ok-push.ensures.items,
  spelled_more c.loop-label.items.items c.push.new.self.items c.label_symbol.result c.loop-label.invariant.1 c.label_symbol.ensures.spelled c.in_ok-push.ensures.items,
)
