-- How a name is taken from the front of a text.
use Rattle.std.specs.Prelude.{◌≢◌, ℕ, ◌+◌, if◌then◌else◌, List, [], ◌∷◌, min, slice_get, unwrap_or}
use Rattle.std.specs.List.{prefix_len}
use Rattle.le_bytes.specs.declared.name.Name.{Name}
use Rattle.ctl_cards.specs.NameTexts.{begins_name, stands_in_name}

-- how many characters at the front make a name: at most eight, and none where no name begins
abbrev pub name_length : List ℕ → ℕ
name_length [] = 0
name_length (b ∷ text) = if begins_name b then 1 + min (prefix_len stands_in_name text) 7 else 0

-- the character at place i, a blank past the end
abbrev pub cell : List ℕ → ℕ → ℕ
cell text i = unwrap_or (slice_get text i) 64

-- the text as a name, padded with blanks
abbrev pub name_with : List ℕ → Name
name_with text =
    record { 0 = cell text 0 ∷ cell text 1 ∷ cell text 2 ∷ cell text 3 ∷ cell text 4 ∷ cell text 5 ∷ cell text 6 ∷ cell text 7 ∷ [] }

-- the text does not begin with b
abbrev pub NotNext : ℕ → List ℕ → Type 0
NotNext b [] = Unit {0}
NotNext b (c ∷ text) = c ≢ b
