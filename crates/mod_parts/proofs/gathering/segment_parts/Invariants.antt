use Rattle.std.proofs.Common.{◌≡◌, ◌++◌, map, take}
use Rattle.member_model.specs.Parts.{OneSection}
use Rattle.mod_parts.specs.Seen.{seen}
use Rattle.mod_parts.specs.Gathered.{head_parts}
use Rattle.mod_parts.proofs.gathering.segment_parts.Given as goal

abbrev pub invariant-loop-section : goal.invariant-loop-section
invariant-loop-section l = map seen l.parts.items ≡ head_parts l.segment l.count ++ map (λ i. OneSection i) (take l.section-index l.sections)
