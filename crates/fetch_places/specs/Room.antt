-- Room in areas.
use Rattle.std.specs.Prelude.{◌≡◌, ℕ, ◌+◌, Bool, nat_le, List, Option, Some, None}
use Rattle.linking_model.specs.Numbers.{round8}
use Rattle.linking_model.specs.Scattered.{found}
use Rattle.fetch_places.specs.declared.placement.Area.{Area}
use Rattle.fetch_places.specs.Over.{left_of}

-- n bytes fit in what is left of an area, from the next multiple of 8 on
abbrev pub has_room : ℕ → Area → Bool
has_room n a = nat_le (round8 a.from + n) a.to

-- what is left of it behind them
abbrev pub filled : ℕ → Area → Area
filled n a = record a { from = round8 a.from + n }

-- n bytes are taken of the first area in which they fit, and there is none where they fit in none
abbrev pub TakesRoom : List Area → ℕ → List Area → Option ℕ → Type 0
TakesRoom old n new None = found (left_of old) n ≡ None
TakesRoom old n new (Some address) = found (left_of old) n ≡ Some (record { address = address; left = left_of new })
