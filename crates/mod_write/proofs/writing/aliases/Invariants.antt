use Rattle.std.proofs.Common.{◌≡◌, map, take}
use Rattle.mod_write.specs.Written.{alias_at}
use Rattle.mod_write.proofs.writing.aliases.Given as goal

abbrev pub invariant-loop-alias : goal.invariant-loop-alias
invariant-loop-alias l = l.aliases ≡ map (alias_at l.list) (take l.alias-index l.points)
