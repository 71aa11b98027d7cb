use Rattle.std.proofs.Common.{◌≡◌, ◌+◌, length}
use Rattle.std.specs.Option.{option_map_or}
use Rattle.command_words.specs.Lists.{pieces, later_pieces, are_areas}
use Rattle.command_words.proofs.areas.is_area_list.Given as goal

-- the pieces that are left decide
abbrev pub invariant-loop-rest : goal.invariant-loop-rest
invariant-loop-rest l = are_areas l.low (later_pieces l.rest) ≡ are_areas 0 (pieces l.fn.text)

abbrev pub decreases-loop-rest : goal.decreases-loop-rest
decreases-loop-rest l = option_map_or (λ text. length text.now + 1) l.rest 0
