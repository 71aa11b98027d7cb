use Rattle.std.proofs.Common.{◌≡◌, ◌∷◌, [], drop}
use Rattle.linking_model.specs.Tree.{lowest_common}
use Rattle.addr_assign.proofs.settling.lowest_from.Given as goal

abbrev pub invariant-loop-user : goal.invariant-loop-user
invariant-loop-user l =
    (lowest_common l.t.tree (l.on ∷ []) ≡ l.on)
    × (lowest_common l.t.tree (l.on ∷ drop l.user-index l.rest) ≡ lowest_common l.t.tree (l.first ∷ l.rest))
