use Rattle.std.proofs.Common.{◌≡◌, drop}
use Rattle.autocall.specs.Rules.{with_items, Extend}
use Rattle.autocall.proofs.rules.CallRules.put_items.Given as goal

abbrev pub invariant-loop-item : goal.invariant-loop-item
invariant-loop-item l = (with_items l.self (drop l.item-index l.items) ≡ with_items l.fn.self l.items) × Extend l.fn.self l.self
