-- The header: eight letters, version, kind, and how many blocks and records there are.
use Rattle.std.specs.Prelude.{ℕ, ◌+◌, ◌*◌, ◌==◌, nat_lt, if◌then◌else◌, List, [], ◌∷◌, length, take, slice_index, Option, Some, None}
use Rattle.std.specs.Str.{bytes_eq}
use Rattle.pds_directory.specs.declared.kinds.LibKind.{LibKind}
use Rattle.pds_directory.specs.declared.kinds.LibKind.TheVariants.{Cards, Modules}
use Rattle.pds_directory.specs.declared.kinds.Version.{Version}
use Rattle.pds_directory.specs.declared.kinds.Version.TheVariants.{One, Two}
use Rattle.pds_directory.specs.declared.header.Head.{Head}
use Rattle.pds_directory.specs.Parts.{number}

-- PDSIMAGE in EBCDIC
abbrev pub mark : List ℕ
mark = 215 ∷ 196 ∷ 226 ∷ 201 ∷ 212 ∷ 193 ∷ 199 ∷ 197 ∷ []

-- the numbers 1 and 2
abbrev pub version_of : ℕ → Option Version
version_of b = if b == 1 then Some One else if b == 2 then Some Two else None

-- the letters F and U
abbrev pub kind_of : ℕ → Option LibKind
kind_of b = if b == 198 then Some Cards else if b == 228 then Some Modules else None

-- where the records begin, behind d blocks
abbrev pub directory_end : ℕ → ℕ
directory_end d = 20 + 256 * d

-- the most records of a library: three bytes count them
abbrev pub most_records : ℕ
most_records = 16777215

-- one block or more, all of them there, and no more records than three bytes count
abbrev pub sized : List ℕ → Head → Option Head
sized image h =
    if h.blocks == 0 then None
    else if nat_lt most_records h.records then None
    else if nat_lt (length image) (directory_end h.blocks) then None
    else Some h

-- the header with its counts, if version and kind are right
abbrev pub counted : List ℕ → Option Version → Option LibKind → Option Head
counted image None kind = None
counted image (Some v) None = None
counted image (Some v) (Some kind) =
    sized image (record { version = v; kind = kind; blocks = number 4 image 12; records = number 4 image 16 })

-- the header of an image, none where it is wrong or the image ends within header or directory
unfoldable pub head_of : List ℕ → Option Head
head_of image =
    if nat_lt (length image) 20 then None
    else if bytes_eq (take 8 image) mark then counted image (version_of (slice_index image 8)) (kind_of (slice_index image 9))
    else None
