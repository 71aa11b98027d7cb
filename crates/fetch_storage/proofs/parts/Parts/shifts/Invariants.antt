use Rattle.std.proofs.Common.{◌≡◌, map, take}
use Rattle.std.specs.List.{enumerate_from}
use Rattle.fetch_storage.specs.Shifts.{shift_of}
use Rattle.fetch_storage.proofs.parts.Parts.shifts.Given as goal

abbrev pub invariant-loop-place : goal.invariant-loop-place
invariant-loop-place l = l.shifts.items ≡ map (λ (n, x). shift_of l.self n x) (enumerate_from 1 (take l.place l.items))
