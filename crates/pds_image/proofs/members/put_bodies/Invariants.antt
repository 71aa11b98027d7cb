use Rattle.std.proofs.Common.{◌≡◌, ◌++◌, take}
use Rattle.std.specs.List.{flat_map}
use Rattle.pds_image.specs.Image.{body_bytes}
use Rattle.pds_image.proofs.members.put_bodies.Given as goal

abbrev pub invariant-loop-e : goal.invariant-loop-e
invariant-loop-e l = l.out.items ≡ l.fn.out.items ++ flat_map (body_bytes l.library) (take l.e-index l.e-items)
