-- What the answers of a sink's write say.
use Rattle.std.specs.Prelude.{◌≡◌, ℕ, ◌<◌, List, [], length, take, Option, Result, Ok, Err}
use Rattle.le_io.specs.declared.store.Failed.{Failed}
use Rattle.le_io.specs.Counts.{Rose, Gains}

-- Ok appends the first n bytes, Failed none
abbrev pub WriteGains : Option (List ℕ) → Option (List ℕ) → List ℕ → Result ℕ Failed → Type 0
WriteGains old new bytes (Ok n) = Gains old new (take n bytes)
WriteGains old new bytes (Err _) = Gains old new []

-- taking nothing of a piece that is not empty is a fault, any other Ok is none, and Failed is one
abbrev pub WriteHasCause : ℕ → ℕ → List ℕ → Result ℕ Failed → Type 0
WriteHasCause before now bytes (Ok n) =
    (n ≡ 0 → 0 < length bytes → Rose before now) × (0 < n → now ≡ before) × (length bytes ≡ 0 → now ≡ before)
WriteHasCause before now bytes (Err _) = Rose before now
