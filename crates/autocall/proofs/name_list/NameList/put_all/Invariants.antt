use Rattle.std.proofs.Common.{◌≡◌, drop}
use Rattle.autocall.specs.Rules.{with_names, BeginsWith}
use Rattle.autocall.proofs.name_list.NameList.put_all.Given as goal

abbrev pub invariant-loop-n : goal.invariant-loop-n
invariant-loop-n l = (with_names l.self (drop l.n-index l.names) ≡ with_names l.fn.self l.names) × BeginsWith l.self l.fn.self
