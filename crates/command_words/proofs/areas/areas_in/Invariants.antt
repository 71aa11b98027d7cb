use Rattle.std.proofs.Common.{◌≡◌, ◌++◌, ◌+◌, length}
use Rattle.std.specs.List.{filter_map}
use Rattle.std.specs.Option.{option_map_or}
use Rattle.command_words.specs.Lists.{later_pieces, area_in, areas_in}
use Rattle.command_words.proofs.areas.areas_in.Given as goal

-- the areas so far and those of the pieces that are left
abbrev pub invariant-loop-rest : goal.invariant-loop-rest
invariant-loop-rest l = l.areas.items ++ filter_map area_in (later_pieces l.rest) ≡ areas_in l.fn.text

abbrev pub decreases-loop-rest : goal.decreases-loop-rest
decreases-loop-rest l = option_map_or (λ text. length text.now + 1) l.rest 0
