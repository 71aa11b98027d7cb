use Rattle.std.proofs.Common.{◌≡◌, map, take}
use Rattle.block_storage.proofs.laying.lengths.Given as goal

abbrev pub invariant-loop-section : goal.invariant-loop-section
invariant-loop-section l = l.lengths.items ≡ map (λ x. x.length) (take l.section-index l.sections)
