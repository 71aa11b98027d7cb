use Rattle.std.proofs.Common.{◌≡◌, fold, max, drop}
use Rattle.addr_assign.proofs.placing.greatest.Given as goal

abbrev pub invariant-loop-n : goal.invariant-loop-n
invariant-loop-n l = fold max l.most (drop l.n-index l.numbers) ≡ fold max 0 l.numbers
