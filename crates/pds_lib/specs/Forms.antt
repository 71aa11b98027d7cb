-- What records that are lent hold.
use Rattle.std.specs.Prelude.{ℕ, ◌<◌, ◌^◌, List, map, length}
use Rattle.std.specs.List.{AllByRecursion}
use Rattle.pds_lib.specs.declared.records.Form.{Form}
use Rattle.pds_lib.specs.declared.records.Form.TheVariants.{Read, Given}
use Rattle.pds_directory.specs.Parts.{part}

-- the records that are lent, as lists of bytes
abbrev pub seen : Form → List (List ℕ)
seen (Read image places) = map (part image.now) places.now
seen (Given records) = records.now

-- four bytes count the bytes of each record
unfoldable pub AreShort : List (List ℕ) → Type 0
AreShort records = AllByRecursion (λ (r : List ℕ). length r < 2 ^ 32) records
