-- A word after the command: KEY=value.
use Rattle.std.specs.Prelude.{ℕ, ◌==◌, Bool, false, if◌then◌else◌, List, [], ◌∷◌, length, Option, None, option_map}
use Rattle.std.specs.List.{before_first, after_first, list_any}
use Rattle.std.specs.Option.{option_map_or}
use Rattle.le_bytes.specs.Names.{name_of_text, name_eq}
use Rattle.le_bytes.specs.declared.name.Name.{Name}

pub record KeyValue : Type 0 where
  pub key : Name
  pub value : List ℕ

-- what stands before the first `=`, as a name, and what stands after it; none where the first is no
-- name or the second is empty
unfoldable pub key_value : List ℕ → Option KeyValue
key_value word =
    let value = after_first (λ c. c == 61) word in
    if length value == 0 then None
    else option_map (λ key. record { key = key; value = value }) (name_of_text (before_first (λ c. c == 61) word))

abbrev pub has_key : Name → List ℕ → Bool
has_key key word = option_map_or (λ s. name_eq s.key key) (key_value word) false

-- some word has the key
abbrev pub is_given : Name → List (List ℕ) → Bool
is_given key words = list_any (has_key key) words

-- the value in the first word that has the key
abbrev pub value_in : Name → List (List ℕ) → Option (List ℕ)
value_in key [] = None
value_in key (word ∷ words) =
    if has_key key word then option_map (λ s. s.value) (key_value word) else value_in key words
