-- The chunks of a piece as they are kept, read as a list.
use Rattle.std.specs.Prelude.{ℕ, List, [], ◌∷◌, ◌++◌, Option, None, Some}
use Rattle.mod_segments.specs.declared.chunk_list.Ending.{Ending}

-- the chunks before the last, and the last
abbrev pub listed : Option Ending → List (List ℕ)
listed None = []
listed (Some x) = x.before ++ x.last ∷ []
