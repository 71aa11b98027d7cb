use Rattle.std.proofs.Common.{◌≡◌, ◌+◌, ◌++◌, ◌∷◌, [], length, map, drop}
use Rattle.pds_directory.specs.declared.entry.Entry.{Entry}
use Rattle.pds_image.specs.Lengths.{capped, blocks_length}
use Rattle.pds_image.specs.Image.{spelled_entry}
use Rattle.pds_image.proofs.length.directory_length.Given as goal

abbrev pub invariant-loop-e : goal.invariant-loop-e
invariant-loop-e l =
    capped (l.total + blocks_length l.used (map (λ (e : Entry). length (spelled_entry l.library e)) (drop l.e-index l.e-items) ++ 12 ∷ []))
    ≡ capped (blocks_length 0 (map (λ (e : Entry). length (spelled_entry l.library e)) l.e-items ++ 12 ∷ []))
