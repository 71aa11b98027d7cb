use Rattle.std.proofs.Common.{◌≡◌, map}
use Rattle.std.specs.List.{range_with_len}
use Rattle.relocate.specs.Ready.{laid}
use Rattle.member_model.specs.Parts.{parts_in}
use Rattle.mod_parts.specs.Seen.{seen}
use Rattle.mod_parts.proofs.gathering.parts_by_segment.Given as goal

abbrev pub invariant-loop-i : goal.invariant-loop-i
invariant-loop-i l = map (map seen) l.segments ≡ map (parts_in (laid l.p l.tree l.t)) (range_with_len 1 l.i)
