use Rattle.std.proofs.Common.{take}
use Rattle.mod_read.specs.Answers.{HasRead}
use Rattle.mod_read.proofs.reading.read.Given as goal

abbrev pub invariant-loop-before : goal.invariant-loop-before
invariant-loop-before l = HasRead l.e (take l.before l.r) l.walk l.texts
