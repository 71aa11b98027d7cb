-- The exit number of each status.
use Rattle.std.specs.Prelude.{ℕ}
use Rattle.command_sets.specs.declared.status.Status.{Status}
use Rattle.command_sets.specs.declared.status.Status.TheVariants.{Done, DoneWithUnresolved, Refused, BadWords, Fault, Memory, NotBuilt}

-- the exit number of a status
abbrev pub exit_of : Status → ℕ
exit_of Done = 0
exit_of DoneWithUnresolved = 4
exit_of (Refused _) = 8
exit_of (NotBuilt _) = 8
exit_of (BadWords _ _) = 12
exit_of (Fault _) = 16
exit_of Memory = 20
