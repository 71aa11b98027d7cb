-- Scatter and translation items, which say again what the symbols say.
use Rattle.std.specs.Prelude.{ℕ, ◌+◌, Bool, true, false, ◌&&◌, ◌==◌, if◌then◌else◌, List, [], ◌∷◌, length, Option, Some, None}
use Rattle.member_model.specs.Faults.{is_next}

-- the wanted numbers begin with these
abbrev pub begins : List ℕ → List ℕ → Bool
begins [] wanted = true
begins (x ∷ xs) [] = false
begins (x ∷ xs) (y ∷ ys) = x == y && begins xs ys

-- how many items have come with these after the first `done`, if they are the next that are wanted
unfoldable pub count_after : List ℕ → ℕ → List ℕ → Option ℕ
count_after wanted done items = if is_next wanted done items then Some (done + length items) else None
