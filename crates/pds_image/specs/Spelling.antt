-- Entries and blocks of a directory, and records, as bytes.
use Rattle.std.specs.Prelude.{◌≡◌, ℕ, ◌+◌, ◌-◌, ◌/◌, ◌%◌, nat_le, if◌then◌else◌, List, [], ◌∷◌, ◌++◌, length, replicate}
use Rattle.byteorder.specs.Endian.{big_bytes}
use Rattle.pds_directory.specs.declared.kinds.LibKind.{LibKind}
use Rattle.pds_directory.specs.declared.kinds.LibKind.TheVariants.{Cards, Modules}
use Rattle.pds_directory.specs.declared.kinds.Version.{Version}
use Rattle.pds_directory.specs.declared.kinds.Version.TheVariants.{One, Two}
use Rattle.pds_directory.specs.declared.entry.Entry.{Entry}
use Rattle.pds_directory.specs.Places.{width}

-- the lowest n bytes of a number, the highest of them first
unfoldable pub number_bytes : ℕ → ℕ → List ℕ
number_bytes n v = big_bytes n v

-- attributes, length, entry point and its section, and of an alias the name of its member
abbrev pub module_data : Entry → List ℕ
module_data e =
    e.attr ∷ 0 ∷ number_bytes 3 e.length ++ 0 ∷ number_bytes 3 e.entry ++ 0 ∷ number_bytes 2 e.entry_section
    ++ (if e.alias then e.main.0 else [])

abbrev pub data_bytes : LibKind → Entry → List ℕ → List ℕ
data_bytes Cards e kept = kept
data_bytes Modules e kept = module_data e

-- whether it is an alias, and how many halfwords of user data follow
abbrev pub flag_byte : Entry → List ℕ → ℕ
flag_byte e bytes = (if e.alias then 128 else 0) + length bytes / 2 % 32

-- an entry whose member begins with this record
abbrev pub entry_bytes : Entry → List ℕ → ℕ → List ℕ
entry_bytes e bytes first = e.name.0 ++ number_bytes 3 first ++ flag_byte e bytes ∷ bytes

-- eight X'FF' and four zero bytes
abbrev pub closing : List ℕ
closing = 255 ∷ 255 ∷ 255 ∷ 255 ∷ 255 ∷ 255 ∷ 255 ∷ 255 ∷ 0 ∷ 0 ∷ 0 ∷ 0 ∷ []

-- a block: the used count, which counts itself, the entries, and zero bytes
unfoldable pub block_bytes : List ℕ → List ℕ
block_bytes entries = number_bytes 2 (2 + length entries) ++ entries ++ replicate (254 - length entries) 0

-- blocks, each with as many entries as go into it; some stand in the first already
unfoldable pub blocks_of : List ℕ → List (List ℕ) → List ℕ
blocks_of begun [] = block_bytes begun
blocks_of begun (e ∷ es) =
    if nat_le (length begun + length e) 254 then blocks_of (begun ++ e) es
    else block_bytes begun ++ blocks_of e es

-- an entry more is put: the blocks that are full, and what stands in the one that is begun, before and after
abbrev pub PutsEntry : List ℕ → List ℕ → List ℕ → List ℕ → List ℕ → Type 0
PutsEntry full begun e full_after begun_after =
    (es : List (List ℕ)) → full_after ++ blocks_of begun_after es ≡ full ++ blocks_of begun (e ∷ es)

unfoldable pub record_bytes : Version → List ℕ → List ℕ
record_bytes v r = number_bytes (width v) (length r) ++ r

abbrev pub version_byte : Version → ℕ
version_byte One = 1
version_byte Two = 2

-- the letters F and U
abbrev pub kind_byte : LibKind → ℕ
kind_byte Cards = 198
kind_byte Modules = 228
