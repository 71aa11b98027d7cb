use Rattle.std.proofs.Common.{◌≡◌, ◌==◌, drop}
use Rattle.std.specs.List.{list_any}
use Rattle.linking_model.specs.Settled.{settled_segment}
use Rattle.addr_assign.proofs.settling.any_in_root.Given as goal

abbrev pub invariant-loop-x : goal.invariant-loop-x
invariant-loop-x l = list_any (λ x. settled_segment l.t.tree l.inserts x x.kind == 1) (drop l.x-index l.x-items) ≡ list_any (λ x. settled_segment l.t.tree l.inserts x x.kind == 1) l.x-items
