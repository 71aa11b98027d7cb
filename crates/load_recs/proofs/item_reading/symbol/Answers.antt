use Rattle.std.proofs.Common.{sym, subst, arith}
use Rattle.load_recs.specs.ItemBytes.{SpellsSymbol}
use Rattle.load_recs.proofs.ItemsSpelled.{symbol_spelled}
use Rattle.load_recs.proofs.item_reading.symbol.Goals as goal

pub returns-clause-spelled : goal.returns-clause-spelled
returns-clause-spelled c = λ fine.
    subst (SpellsSymbol c.args.item.now) (sym c.symbol_fields.ensures) (symbol_spelled c.args.item.now c.requires (λ i. omega (arith, c.type_inv.item i)) fine)
