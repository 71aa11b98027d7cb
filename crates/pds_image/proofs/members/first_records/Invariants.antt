use Rattle.std.proofs.Common.{◌≡◌, ◌+◌, drop}
use Rattle.std.specs.HashMap.{get}
use Rattle.le_bytes.specs.declared.name.Name.{Name}
use Rattle.le_bytes.specs.Names.{name_eq}
use Rattle.pds_image.specs.Image.{records_in, first_from}
use Rattle.pds_image.proofs.Walking.{or_else}
use Rattle.pds_image.proofs.members.first_records.Given as goal

abbrev pub invariant-loop-e : goal.invariant-loop-e
invariant-loop-e l =
    ((n : Name) → or_else (get name_eq l.firsts n) (first_from l.next l.library (drop l.e-index l.e-items) n) ≡ first_from 1 l.library l.e-items n)
    × (l.next + records_in l.library (drop l.e-index l.e-items) ≡ 1 + records_in l.library l.e-items)
