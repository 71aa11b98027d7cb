-- Entries that modules give.
use Rattle.std.specs.Prelude.{Bool, true, false}
use Rattle.sym_mod.specs.declared.program.StartAt.{StartAt}
use Rattle.sym_mod.specs.declared.program.StartAt.TheVariants.{At as StartsAt, Named as StartsAtName}

-- an entry that is given by its name, and not by a place
abbrev pub is_by_name : StartAt → Bool
is_by_name (StartsAt section offset) = false
is_by_name (StartsAtName name) = true
