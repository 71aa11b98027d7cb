use Rattle.std.proofs.Common.{◌≡◌, ℕ, take}
use Rattle.std.specs.Prelude.{nat_eq}
use Rattle.std.specs.HashMap.{get}
use Rattle.pds_directory.specs.Directory.{owner_of}
use Rattle.pds_directory.proofs.directory.owners_of.Given as goal

abbrev pub invariant-loop-i : goal.invariant-loop-i
invariant-loop-i l = (t : ℕ) → get nat_eq l.owners t ≡ owner_of (take l.i l.entries) t
