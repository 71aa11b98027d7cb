use Rattle.std.proofs.Common.{◌≡◌, ◌+◌, map, take}
use Rattle.block_storage.proofs.moving.added.Given as goal

abbrev pub invariant-loop-number : goal.invariant-loop-number
invariant-loop-number l = l.sums.items ≡ map (λ n. l.origin + n) (take l.number-index l.numbers)
