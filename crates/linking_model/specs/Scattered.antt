-- Sections placed over areas of storage: each, in order, from the next multiple of 8 in the first area in which it
-- fits (this project's profile of scatter loading).
use Rattle.std.specs.Prelude.{ℕ, ◌+◌, nat_le, if◌then◌else◌, List, [], ◌∷◌, Option, Some, None, option_map, option_and_then}
use Rattle.linking_model.specs.Numbers.{round8}

-- what is left of an area: from the mark on, below its end
pub record Area : Type 0 where
  pub mark : ℕ
  pub end : ℕ

-- an address, and what is left of the areas
pub record Found : Type 0 where
  pub address : ℕ
  pub left : List Area

-- n bytes in the first area in which they fit
abbrev pub found : List Area → ℕ → Option Found
found [] n = None
found (a ∷ areas) n =
    if nat_le (round8 a.mark + n) a.end
    then Some (record { address = round8 a.mark; left = record a { mark = round8 a.mark + n } ∷ areas })
    else option_map (λ (f : Found). record f { left = a ∷ f.left }) (found areas n)

-- the addresses of sections of these lengths, none where one fits nowhere
unfoldable pub scattered : List Area → List ℕ → Option (List ℕ)
scattered areas [] = Some []
scattered areas (n ∷ lengths) =
    option_and_then (λ f. option_map (λ rest. f.address ∷ rest) (scattered f.left lengths)) (found areas n)
