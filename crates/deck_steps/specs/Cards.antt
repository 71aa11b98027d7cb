-- A sequential set as cards of 80 bytes.
use Rattle.std.specs.Prelude.{ℕ, ◌*◌, ◌/◌, ◌%◌, Bool, not, ◌==◌, List, length, map, take, drop}
use Rattle.std.specs.List.{range_with_len}

-- the cards that are whole
unfoldable pub whole_cards : List ℕ → List (List ℕ)
whole_cards bytes = map (λ k. take 80 (drop (80 * k) bytes)) (range_with_len 0 (length bytes / 80))

-- a shorter card stands after them
abbrev pub has_short_card : List ℕ → Bool
has_short_card bytes = not (length bytes % 80 == 0)
