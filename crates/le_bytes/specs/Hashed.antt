-- What a name gives to a hash.
use Rattle.std.specs.Prelude.{ℕ, List, [], ◌∷◌}
use Rattle.le_bytes.specs.declared.name.Name.{Name}

-- the writes of a name: its eight bytes at once
abbrev pub written : Name → List (List ℕ)
written n = n.0 ∷ []
