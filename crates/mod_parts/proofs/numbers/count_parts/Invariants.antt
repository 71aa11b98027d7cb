use Rattle.std.proofs.Common.{◌≡◌, length, take}
use Rattle.member_model.specs.Cuts.{together}
use Rattle.mod_parts.proofs.numbers.count_parts.Given as goal

abbrev pub invariant-loop-parts : goal.invariant-loop-parts
invariant-loop-parts l = l.count ≡ length (together (take l.parts-index l.segments))
