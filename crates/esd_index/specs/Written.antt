-- What a symbol gives to a hash.
use Rattle.std.specs.Prelude.{ℕ, List, [], ◌∷◌, ◌++◌}
use Rattle.std.specs.Hash as fed
use Rattle.esd_index.specs.declared.key.Key.{Key}
use Rattle.esd_index.specs.declared.key.Key.TheVariants.{Named, Private}

-- the writes of a symbol: the bytes of a name at once, or the two numbers of a private section
abbrev pub written : Key → List (List ℕ)
written (Named y) = y.0 ∷ []
written (Private m n) = fed.usize m ++ fed.usize n
