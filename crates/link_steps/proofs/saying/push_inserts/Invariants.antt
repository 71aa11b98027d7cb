use Rattle.std.proofs.Common.{◌≡◌, ◌++◌, map, take}
use Rattle.link_steps.proofs.saying.push_inserts.Given as goal

abbrev pub invariant-loop-name : goal.invariant-loop-name
invariant-loop-name l = l.list ≡ l.initial.list ++ map (λ n. (n, l.segment)) (take l.name-index l.names)
