use Rattle.std.proofs.Common.{◌≡◌, length, take}
use Rattle.std.specs.List.{flat_map}
use Rattle.pds_image.specs.Image.{body_bytes}
use Rattle.pds_image.specs.Lengths.{capped}
use Rattle.pds_image.proofs.length.bodies_length.Given as goal

abbrev pub invariant-loop-e : goal.invariant-loop-e
invariant-loop-e l = l.total ≡ capped (length (flat_map (body_bytes l.library) (take l.e-index l.e-items)))
