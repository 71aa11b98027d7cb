use Rattle.std.proofs.Common.{◌≡◌, ◌∷◌, map, take}
use Rattle.std.specs.List.{AllByRecursion}
use Rattle.pds_lib.specs.Stow.{main_entry, alias_entry, HasWidths}
use Rattle.pds_lib.proofs.stow.entries_for.Given as goal

abbrev pub invariant-loop-a : goal.invariant-loop-a
invariant-loop-a l =
    (l.entries.items ≡ main_entry l.m ∷ map (alias_entry l.m) (take l.a-index l.m.aliases))
    × AllByRecursion HasWidths (main_entry l.m ∷ map (alias_entry l.m) (take l.a-index l.m.aliases))
