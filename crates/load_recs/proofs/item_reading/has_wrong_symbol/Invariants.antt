use Rattle.std.proofs.Common.{◌≡◌, ◌-◌, ◌/◌, length}
use Rattle.std.specs.List.{list_any, range_with_len}
use Rattle.load_recs.specs.Items.{item_at, is_wrong_symbol, has_wrong_symbol}
use Rattle.load_recs.proofs.item_reading.has_wrong_symbol.Given as goal

abbrev pub invariant-loop-k : goal.invariant-loop-k
invariant-loop-k l =
    list_any (λ k. is_wrong_symbol (item_at 16 k l.items)) (range_with_len l.k (length l.items / 16 - l.k)) ≡ has_wrong_symbol l.items
