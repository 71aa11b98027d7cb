-- A dump of storage: its lines of at most 16 bytes.
use Rattle.std.specs.Prelude.{ℕ, zero, suc, ◌+◌, ◌*◌, List, [], ◌∷◌, ◌++◌, length, take, drop}
use Rattle.std.specs.Int.{div_ceil}
use Rattle.hex.specs.Hex.{encode_lower}
use Rattle.map_list.specs.Printed.{a6, line}

-- the line of some bytes, the first of which stands at the address
unfoldable pub dump_line : ℕ → List ℕ → List ℕ
dump_line address bytes = line (a6 address) (encode_lower bytes ∷ [])

-- the first n lines of a dump, 16 bytes each, the last as many as there are left
abbrev pub dump_lines : ℕ → List ℕ → ℕ → List ℕ
dump_lines address bytes zero = []
dump_lines address bytes (suc n) =
    dump_lines address bytes n ++ dump_line (address + 16 * n) (take 16 (drop (16 * n) bytes))

-- the dump of a range: a line for each 16 bytes from its start, and a shorter last one
unfoldable pub dump_text : ℕ → List ℕ → List ℕ
dump_text address bytes = dump_lines address bytes (div_ceil (length bytes) 16)
