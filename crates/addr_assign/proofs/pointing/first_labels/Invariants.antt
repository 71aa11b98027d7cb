use Rattle.std.proofs.Common.{◌≡◌, ◌-◌, length, drop}
use Rattle.std.specs.HashMap.{get}
use Rattle.le_bytes.specs.declared.name.Name.{Name}
use Rattle.le_bytes.specs.Names.{name_eq}
use Rattle.addr_assign.specs.Maps.{first_label}
use Rattle.addr_assign.proofs.pointing.first_labels.Given as goal

abbrev pub invariant-loop-done : goal.invariant-loop-done
invariant-loop-done l = (n : Name) → get name_eq l.firsts n ≡ first_label (drop (length l.labels - l.done) l.labels) n
