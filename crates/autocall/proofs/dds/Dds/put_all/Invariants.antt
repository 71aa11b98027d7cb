use Rattle.std.proofs.Common.{◌≡◌, drop}
use Rattle.autocall.specs.Rules.{with_dds, BeginsWith}
use Rattle.autocall.proofs.dds.Dds.put_all.Given as goal

abbrev pub invariant-loop-symbol : goal.invariant-loop-symbol
invariant-loop-symbol l = (with_dds l.dd l.self (drop l.symbol-index l.symbols) ≡ with_dds l.dd l.fn.self l.symbols) × BeginsWith l.self l.fn.self
