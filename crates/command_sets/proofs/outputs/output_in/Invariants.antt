use Rattle.std.proofs.Common.{◌≡◌, All}
use Rattle.std.specs.Vec.Iter.{into_iter_items}
use Rattle.command_sets.specs.Reading.{IsReadBody}
use Rattle.pds_lib.specs.declared.set.Set.{Set}
use Rattle.command_sets.specs.Libraries.{output_in}
use Rattle.command_sets.proofs.outputs.output_in.Given as goal

abbrev pub invariant-loop-set : goal.invariant-loop-set
invariant-loop-set l =
    (output_in l.new (into_iter_items l.set-iterator) ≡ output_in l.new (into_iter_items l.initial.set-iterator))
    × All (λ (x : Set). IsReadBody x.body) (into_iter_items l.set-iterator)
