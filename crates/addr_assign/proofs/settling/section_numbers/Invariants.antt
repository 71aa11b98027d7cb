use Rattle.std.proofs.Common.{◌≡◌, ◌-◌, length, drop}
use Rattle.std.specs.HashMap.{get}
use Rattle.le_bytes.specs.declared.name.Name.{Name}
use Rattle.le_bytes.specs.Names.{name_eq}
use Rattle.addr_assign.specs.Maps.{section_from}
use Rattle.addr_assign.proofs.settling.section_numbers.Given as goal

abbrev pub invariant-loop-done : goal.invariant-loop-done
invariant-loop-done l = (n : Name) → get name_eq l.named n ≡ section_from (length l.sections - l.done) (drop (length l.sections - l.done) l.sections) n
