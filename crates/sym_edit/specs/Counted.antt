-- How many of the items before each one stay.
use Rattle.std.specs.Prelude.{ℕ, ◌+◌, Bool, if◌then◌else◌, List, [], ◌∷◌}

-- for each item, where so many stay before the first
abbrev pub counts_from : ℕ → List Bool → List ℕ
counts_from n [] = []
counts_from n (g ∷ gone) = n ∷ counts_from (if g then n else n + 1) gone
