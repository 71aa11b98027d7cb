use Rattle.std.proofs.Common.{◌≡◌, ◌++◌}
use Rattle.std.specs.List.{filter_map}
use Rattle.std.specs.Vec.Iter.{into_iter_items}
use Rattle.sym_edit.specs.Without.{fragment_without}
use Rattle.sym_edit.proofs.leaving.fragments_left.Given as goal

abbrev pub invariant-loop-f : goal.invariant-loop-f
invariant-loop-f l =
    l.made ++ filter_map (fragment_without l.numbers) (into_iter_items l.f-iterator)
    ≡ filter_map (fragment_without l.numbers) (into_iter_items l.initial.f-iterator)
