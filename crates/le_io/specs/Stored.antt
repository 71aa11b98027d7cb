-- What a store in memory holds.
use Rattle.std.specs.Prelude.{ℕ, List, Bool, String, Vec, string_bytes}
use Rattle.std.specs.List.{find}
use Rattle.std.specs.Str.{bytes_eq}
use Rattle.std.specs.Option.{option_map}
use Rattle.std.specs.declared.alloc.Global.{Global}
use Rattle.le_io.specs.Counts.{Files}

-- the file has this path
abbrev pub is_at : List ℕ → String Global × Vec ℕ Global → Bool
is_at path file = bytes_eq (string_bytes file.0) path

-- at each path the bytes of the first file of that path
abbrev pub files_in : List (String Global × Vec ℕ Global) → Files
files_in files path = option_map (λ file. file.1.items) (find (is_at path) files)
