use Rattle.std.proofs.Common.{◌≡◌, map, take, length}
use Rattle.std.specs.List.{range_with_len}
use Rattle.addr_assign.specs.Reach.{next_place, segment_at}
use Rattle.addr_assign.proofs.placing.addresses.Given as goal

abbrev pub invariant-loop-x : goal.invariant-loop-x
invariant-loop-x l =
    (l.next.items ≡ map (next_place l.t.tree l.origins (take l.x-index l.sections)) (range_with_len 1 (length l.t.tree)))
    × (l.places.items ≡ map (λ i. next_place l.t.tree l.origins (take i l.sections) (segment_at l.sections i)) (range_with_len 0 l.x-index))
