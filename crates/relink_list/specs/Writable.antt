-- Bytes that are the characters of a name.
use Rattle.std.specs.Prelude.{ℕ, Bool, false, ◌&&◌, List, [], ◌∷◌}
use Rattle.std.specs.List.{list_all}
use Rattle.ctl_cards.specs.NameTexts.{begins_name, stands_in_name}

abbrev pub is_word : List ℕ → Bool
is_word [] = false
is_word (b ∷ bytes) = begins_name b && list_all stands_in_name bytes
