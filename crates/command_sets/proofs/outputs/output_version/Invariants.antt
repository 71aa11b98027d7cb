use Rattle.std.proofs.Common.{◌≡◌, drop}
use Rattle.command_sets.specs.Libraries.{output_in}
use Rattle.command_sets.proofs.outputs.output_version.Given as goal

abbrev pub invariant-loop-set : goal.invariant-loop-set
invariant-loop-set l = output_in l.new (drop l.set-index l.sets) ≡ output_in l.new l.sets
