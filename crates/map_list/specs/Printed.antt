-- How names, addresses and numbers are printed, and how fields make a line.
use Rattle.std.specs.Prelude.{ℕ, ◌^◌, ◌==◌, nat_lt, if◌then◌else◌, List, [], ◌∷◌, ◌++◌, map, flat_map}
use Rattle.std.specs.List.{list_all}
use Rattle.byteorder.specs.Endian.{big_bytes}
use Rattle.hex.specs.Hex.{encode_lower}
use Rattle.le_bytes.specs.Codes.{ascii_of}
use Rattle.le_bytes.specs.declared.name.Name.{Name}
-- numbers in decimal are std's word
pub use Rattle.std.specs.Prelude.{decimal}

-- the text without the blanks at its end
abbrev pub trimmed : List ℕ → List ℕ
trimmed [] = []
trimmed (c ∷ text) = if list_all (λ b. b == 32) (c ∷ text) then [] else c ∷ trimmed text

-- a name in ASCII, without the blanks at its end
unfoldable pub printed_name : Name → List ℕ
printed_name n = trimmed (map ascii_of n.0)

-- an address: six hexadecimal digits, or eight for a number above ffffff
unfoldable pub a6 : ℕ → List ℕ
a6 n = if nat_lt n (2 ^ 24) then encode_lower (big_bytes 3 n) else encode_lower (big_bytes 4 n)

-- a blank before each field
abbrev pub fields : List (List ℕ) → List ℕ
fields texts = flat_map (λ text. 32 ∷ text) texts

-- the line of some words: one blank between two, and the line feed
abbrev pub line : List ℕ → List (List ℕ) → List ℕ
line first texts = first ++ fields texts ++ 10 ∷ []
