use Rattle.std.proofs.Common.{◌≡◌, drop}
use Rattle.linking_model.specs.Settled.{unknown_insert}
use Rattle.addr_assign.proofs.settling.unknown_insert.Given as goal

abbrev pub invariant-loop-name : goal.invariant-loop-name
invariant-loop-name l = unknown_insert l.p (drop l.name-index l.inserts) ≡ unknown_insert l.p l.inserts
