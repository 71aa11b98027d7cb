use Rattle.std.proofs.Common.{◌≡◌, drop}
use Rattle.link_core.specs.Sets.{primary_cards}
use Rattle.link_core.proofs.sets.primary_cards.Given as goal

abbrev pub invariant-loop-set : goal.invariant-loop-set
invariant-loop-set l = primary_cards (drop l.set-index l.sets) ≡ primary_cards l.fn.sets
