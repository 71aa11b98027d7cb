-- A name in a column of eight characters.
use Rattle.std.specs.Prelude.{ℕ, List, map}
use Rattle.le_bytes.specs.Codes.{ascii_of}
use Rattle.le_bytes.specs.declared.name.Name.{Name}

-- a name in ASCII, with the blanks at its end
unfoldable pub padded_name : Name → List ℕ
padded_name n = map ascii_of n.0
