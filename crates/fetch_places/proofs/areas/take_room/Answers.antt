use Rattle.std.proofs.Common.{◌≡◌, None, Some, sym, ◌∙◌}
use Rattle.std.specs.List.{position}
use Rattle.fetch_places.specs.Room.{has_room}
use Rattle.fetch_places.proofs.Found.{position_none, no_room, room_at, room_there}
use Rattle.fetch_places.proofs.areas.take_room.Goals as goal

pub returns-in_err-at : goal.returns-in_err-at
returns-in_err-at c =
    let none : None ≡ position (has_room c.args.length) c.args.areas.now = sym c.in_err-at.was ∙ c.first_with_room.ensures in
    rw c.from_residual.ensures (no_room c.args.length c.args.areas.now (position_none (has_room c.args.length) c.args.areas.now none))

pub filled-left-requires : goal.filled-left-requires
filled-left-requires c =
    let there : Some c.in_ok-at.at ≡ position (has_room c.args.length) c.args.areas.now = sym c.in_ok-at.was ∙ c.first_with_room.ensures in
    room_there c.args.length c.in_ok-at.at c.args.areas.now _ there

pub returns : goal.returns
returns c =
    let there : Some c.in_ok-at.at ≡ position (has_room c.args.length) c.args.areas.now = sym c.in_ok-at.was ∙ c.first_with_room.ensures in
    room_at c.args.length c.in_ok-at.at c.args.areas.now _ c.filled-left.result there c.filled-left.ensures
