use Rattle.std.proofs.Common.{◌≡◌, map}
use Rattle.std.specs.List.{range_with_len}
use Rattle.mod_parts.proofs.Bucketed.{first_in}
use Rattle.mod_parts.proofs.gathering.sections_by_segment.Given as goal

abbrev pub invariant-loop-i : goal.invariant-loop-i
invariant-loop-i l = map (λ v. v.items) l.lists.items ≡ map (first_in l.p l.i) (range_with_len 1 l.count)
