use Rattle.std.proofs.Common.{◌≡◌, ◌++◌, ◌∷◌, [], map, drop}
use Rattle.pds_image.specs.Spelling.{blocks_of, closing}
use Rattle.pds_image.specs.Image.{spelled_entry}
use Rattle.pds_image.proofs.directory.directory_bytes.Given as goal

abbrev pub invariant-loop-e : goal.invariant-loop-e
invariant-loop-e l =
    l.full.items ++ blocks_of l.begun.items (map (spelled_entry l.library) (drop l.e-index l.e-items) ++ closing ∷ [])
    ≡ blocks_of [] (map (spelled_entry l.library) l.e-items ++ closing ∷ [])
