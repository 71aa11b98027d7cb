use Rattle.fetch_places.specs.Over.{left_of}
use Rattle.fetch_places.proofs.Steps.{IsPlacingFrom}
use Rattle.fetch_places.proofs.areas.place_sections.Given as goal

abbrev pub invariant-loop-item : goal.invariant-loop-item
invariant-loop-item l = IsPlacingFrom (left_of l.areas) (left_of l.left.items) l.items l.item-index l.addresses.items
