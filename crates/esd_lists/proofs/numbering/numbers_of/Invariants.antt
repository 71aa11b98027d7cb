use Rattle.std.proofs.Common.{◌≡◌, drop}
use Rattle.std.specs.HashMap.{get}
use Rattle.std.specs.List.{position_from}
use Rattle.std.specs.Option.{option_or}
use Rattle.le_bytes.specs.declared.name.Name.{Name}
use Rattle.le_bytes.specs.Names.{name_eq}
use Rattle.esd_lists.specs.Numbered.{is_named_so}
use Rattle.esd_lists.proofs.numbering.numbers_of.Given as goal

abbrev pub invariant-loop-number : goal.invariant-loop-number
invariant-loop-number l = (y : Name) → option_or (get name_eq l.numbers y) (position_from (is_named_so y) l.number (drop l.number l.names)) ≡ position_from (is_named_so y) 0 l.names
