use Rattle.std.proofs.Common.{◌≡◌, ◌||◌, ◌++◌, drop, map}
use Rattle.sym_edit.specs.Edited.{is_defined_as, stands_in, gone_with}
use Rattle.sym_edit.proofs.judging.gone_with.Given as goal

abbrev pub invariant-loop-x : goal.invariant-loop-x
invariant-loop-x l =
    l.gone.items ++ map (λ x. is_defined_as l.name x || stands_in l.name l.items x) (drop l.x-index l.items)
    ≡ gone_with l.name l.items
