use Rattle.std.proofs.Common.{◌≡◌, drop}
use Rattle.pds_directory.specs.Directory.{rules_from, rules_of}
use Rattle.pds_directory.proofs.directory.Directory.check.Given as goal

abbrev pub invariant-loop-i : goal.invariant-loop-i
invariant-loop-i l = rules_from l.self l.ends l.i (drop l.i l.entries) ≡ rules_of l.self l.ends
