use Rattle.std.proofs.Common.{◌≡◌, ◌∙◌, ap}
use Rattle.fetch_places.specs.Extents.{are_in_turn}
use Rattle.fetch_places.proofs.Apart.{stand_apart_is}
use Rattle.fetch_places.proofs.fitting.stand_apart.Goals as goal

pub returns : goal.returns
returns c =
    stand_apart_is c.args.extents.items c.sort_unstable.new.self.items c.are_in_turn.result
    (c.are_in_turn.ensures ∙ ap (are_in_turn 0) c.deref.ensures.value) c.sort_unstable.ensures.permutation c.sort_unstable.ensures.sorted
