-- Lists in parts of equal length, as the writer cuts text and items (this project's profile).
use Rattle.std.specs.Prelude.{ℕ, ◌+◌, ◌-◌, ◌*◌, ◌/◌, List, map, flat_map, length, take, drop}
use Rattle.std.specs.List.{range_with_len}

-- part k of the list, of n items or, the last, fewer
abbrev pub cut_at : {A : Type 0} → ℕ → List A → ℕ → List A
cut_at n xs k = take n (drop (n * k) xs)

-- the list in parts of n items
abbrev pub cuts : {A : Type 0} → ℕ → List A → List (List A)
cuts n xs = map (cut_at n xs) (range_with_len 0 ((length xs + (n - 1)) / n))

-- the lists one after the other
abbrev pub together : {A : Type 0} → List (List A) → List A
together lists = flat_map (λ x. x) lists
