use Rattle.std.proofs.Common.{◌∙◌, ap}
use Rattle.mod_parts.proofs.Symbolled.{item_more, spelled_more}
use Rattle.member_model.specs.SymbolList.{unresolved_symbol}
use Rattle.mod_parts.proofs.symbols.put_unresolved.Goals as goal

pub loop-unknown-preserved : goal.loop-unknown-preserved
loop-unknown-preserved c = (
  item_more unresolved_symbol c.args.list.now.program.unresolved c.as_slice-unknown-items.result.now c.loop-unknown.unknown-index _
      c.args.items.now.items c.loop-unknown.items.items c.push.new.self.items c.unresolved_symbol.result
      (c.as_slice-unknown-items.ensures ∙ ap (λ p. p.unresolved) c.program.ensures.program)
      c.loop-unknown-test.true c.loop-unknown.invariant.0 c.unresolved_symbol.ensures.item c.in_ok-push.ensures.items,
  spelled_more c.loop-unknown.items.items c.push.new.self.items c.unresolved_symbol.result c.loop-unknown.invariant.1 c.unresolved_symbol.ensures.spelled c.in_ok-push.ensures.items,
)
