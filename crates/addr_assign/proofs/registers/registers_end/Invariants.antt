use Rattle.std.proofs.Common.{◌≡◌, ◌≤◌, ◌*◌, drop}
use Rattle.linking_model.specs.Points.{registers_end}
use Rattle.addr_assign.proofs.registers.registers_end.Given as goal

abbrev pub invariant-loop-x : goal.invariant-loop-x
invariant-loop-x l =
    (registers_end l.at (drop l.x-index l.registers) ≡ registers_end 0 l.registers)
    × (l.at ≤ l.x-index * 16777222)
