use Rattle.std.proofs.Common.{◌≡◌, ◌/◌, ◌∷◌, [], ◌++◌, length, sym, ap, ◌∙◌, arith}
use Rattle.load_recs.specs.Items.{symbol_of}
use Rattle.member_model.specs.Faults.{symbols_fault}
use Rattle.member_checks.proofs.ItemLists.{items_over, list_next, list_over}
use Rattle.member_checks.proofs.SymbolLists.{symbols_next}
use Rattle.member_checks.proofs.symbols.Symbols.with_items.Goals as goal

pub loop-k-preserved : goal.loop-k-preserved
loop-k-preserved c = record {
  faults = symbols_next c.args.e.now c.loop-k.symbols c.in_ok-symbols-in-None.symbols c.loop-k.k c.args.items.now c.symbol_item-x.result
      c.loop-k-test.true c.symbol_item-x.ensures.value (sym c.fault.ensures ∙ c.in-None.is) c.in_ok-symbols-in-None.ensures
      ∙ c.loop-k.invariant.faults;
  values = list_next symbol_of 16 c.loop-k.k c.args.items.now c.loop-k.symbols c.in_ok-symbols-in-None.symbols c.loop-k-test.true
      (c.in_ok-symbols-in-None.ensures ∙ ap (λ x. c.loop-k.symbols ++ x ∷ []) c.symbol_item-x.ensures.value)
      ∙ c.loop-k.invariant.values;
}

pub returns : goal.returns
returns c =
    let over : c.loop-k.k ≡ length c.args.items.now / 16 = omega arith in (
      sym c.loop-k.invariant.faults ∙ ap (symbols_fault c.args.e.now c.loop-k.symbols) (items_over symbol_of 16 c.loop-k.k c.args.items.now over),
      sym (list_over symbol_of 16 c.loop-k.k c.args.items.now c.loop-k.symbols over) ∙ c.loop-k.invariant.values,
    )
