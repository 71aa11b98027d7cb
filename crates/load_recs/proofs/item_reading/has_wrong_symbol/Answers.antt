use Rattle.std.proofs.Common.{◌≡◌, ◌/◌, true, false, length, sym, ap, ◌∙◌}
use Rattle.load_recs.specs.Items.{item_at, is_wrong_symbol}
use Rattle.load_recs.proofs.ItemLists.{any_found, any_passed}
use Rattle.load_recs.proofs.item_reading.has_wrong_symbol.Goals as goal

pub returns-then-is_wrong_symbol : goal.returns-then-is_wrong_symbol
returns-then-is_wrong_symbol c =
    let bytes = c.args.items.now in
    let wrong : is_wrong_symbol (item_at 16 c.loop-k.k bytes) ≡ true = ap is_wrong_symbol (sym c.item.ensures) ∙ sym c.is_wrong_symbol.ensures ∙ c.if-is_wrong_symbol.true in
    sym (any_found (λ k. is_wrong_symbol (item_at 16 k bytes)) c.loop-k.k (length bytes / 16) c.loop-k-test.true wrong) ∙ c.loop-k.invariant

pub loop-k-preserved : goal.loop-k-preserved
loop-k-preserved c =
    let bytes = c.args.items.now in
    let fine : is_wrong_symbol (item_at 16 c.loop-k.k bytes) ≡ false = ap is_wrong_symbol (sym c.item.ensures) ∙ sym c.is_wrong_symbol.ensures ∙ c.if-is_wrong_symbol.false in
    sym (any_passed (λ k. is_wrong_symbol (item_at 16 k bytes)) c.loop-k.k (length bytes / 16) c.loop-k-test.true fine) ∙ c.loop-k.invariant
