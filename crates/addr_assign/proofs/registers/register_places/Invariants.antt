use Rattle.std.proofs.Common.{◌≡◌, ◌++◌, drop}
use Rattle.linking_model.specs.Points.{registers_end, displacements}
use Rattle.addr_assign.proofs.registers.register_places.Given as goal

abbrev pub invariant-loop-x : goal.invariant-loop-x
invariant-loop-x l =
    (l.places.items ++ displacements l.at (drop l.x-index l.registers) ≡ displacements 0 l.registers)
    × (registers_end l.at (drop l.x-index l.registers) ≡ registers_end 0 l.registers)
