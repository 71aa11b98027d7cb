use Rattle.std.proofs.Common.{◌≡◌, ◌++◌, drop}
use Rattle.load_recs.specs.Items.{symbols_of}
use Rattle.member_model.specs.Faults.{symbols_fault}
use Rattle.member_checks.proofs.symbols.Symbols.with_items.Given as goal

abbrev pub invariant-loop-k : goal.invariant-loop-k
invariant-loop-k l = record {
  faults : symbols_fault l.e l.symbols (drop l.k (symbols_of l.items)) ≡ symbols_fault l.e l.fn.self (symbols_of l.items);
  values : l.symbols ++ drop l.k (symbols_of l.items) ≡ l.fn.self ++ symbols_of l.items;
}
