use Rattle.std.proofs.Common.{◌≡◌, map, replicate, take}
use Rattle.member_model.specs.Placing.{sections_of}
use Rattle.fetch_storage.proofs.rooms.section_rooms.Given as goal

abbrev pub invariant-loop-item : goal.invariant-loop-item
invariant-loop-item l =
    map (λ room. room.items) l.rooms.items ≡ map (λ n. replicate n 0) (map (λ x. x.length) (sections_of (take l.item-index l.items)))
