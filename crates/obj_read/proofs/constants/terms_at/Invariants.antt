use Rattle.std.proofs.Common.{◌≡◌, map, take}
use Rattle.std.specs.List.{filter}
use Rattle.obj_read.specs.Module.{same_place, term}
use Rattle.obj_read.proofs.constants.terms_at.Given as goal

abbrev pub invariant-loop-g : goal.invariant-loop-g
invariant-loop-g l = l.made ≡ map (term l.items) (filter (same_place l.f) (take l.g-index l.terms))
