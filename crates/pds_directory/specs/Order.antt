-- Things in the order of their names.
use Rattle.std.specs.Prelude.{ℕ, Bool, true, ◌&&◌, List, [], ◌∷◌}
use Rattle.std.specs.List.{prefix_len}
use Rattle.le_bytes.specs.declared.name.Name.{Name}
use Rattle.pds_directory.specs.Parts.{is_below}

-- the first name is above m, and each other one above the one before
abbrev pub ascends_after : {X : Type 0} → (X → Name) → Name → List X → Bool
ascends_after name m [] = true
ascends_after name m (x ∷ xs) = is_below m (name x) && ascends_after name (name x) xs

-- each name is above the one before
abbrev pub ascends : {X : Type 0} → (X → Name) → List X → Bool
ascends name [] = true
ascends name (x ∷ xs) = ascends_after name (name x) xs

-- where a name stands or would go in: behind those that begin the list and are below it
abbrev pub place_of : {X : Type 0} → (X → Name) → List X → Name → ℕ
place_of name xs n = prefix_len (λ x. is_below (name x) n) xs
