use Rattle.std.proofs.Common.{◌≡◌, drop}
use Rattle.fetch_places.specs.Extents.{are_in_turn}
use Rattle.fetch_places.proofs.fitting.are_in_turn.Given as goal

abbrev pub invariant-loop-extent : goal.invariant-loop-extent
invariant-loop-extent l = are_in_turn l.end (drop l.extent-index l.extents) ≡ are_in_turn 0 l.extents
