-- Some of the symbols, and how they are found where the place of a symbol among all is known.
use Rattle.std.specs.Prelude.{◌≡◌, ℕ, ◌-◌, Bool, false, if◌then◌else◌, List, [], ◌∷◌, ◌++◌, length, replicate, position, slice_get, slice_set, Option, Some, None, option_and_then}
use Rattle.std.specs.Option.{option_map_or}
use Rattle.linking_model.specs.Kept.{Symbol, symbol_eq}
use Rattle.esd_index.specs.Marked.{Marked}

-- some of the symbols, those that stood there when they were marked, and for places among all symbols a place here
pub record Part : Type 0 where
  pub all : List Symbol
  pub marked : List Symbol
  pub places : List ℕ

-- the symbol stands at place k
abbrev pub stands_at : List Symbol → ℕ → Symbol → Bool
stands_at ys k y = option_map_or (λ z. symbol_eq z y) (slice_get ys k) false

-- the place of the symbol that stands at a place among all, where it stands where it is looked for
abbrev pub place_by : Part → ℕ → Symbol → Option ℕ
place_by part at y = option_and_then (λ k. if stands_at part.all k y then Some k else None) (slice_get part.places at)

-- the places, with so many zeros behind them that there are n
abbrev pub with_room : List ℕ → ℕ → List ℕ
with_room places n = places ++ replicate (n - length places) 0

-- the part with a symbol at its end that stands at a place among all
abbrev pub with_last : Part → ℕ → Symbol → Part
with_last part at y = record { all = part.all ++ y ∷ []; marked = part.marked; places = slice_set part.places at (length part.all) }

-- ---- a part of the symbols

-- each symbol of the part is found by its place among all
abbrev pub Leads : List Symbol → List ℕ → List Symbol → Type 0
Leads all places part = (k : ℕ) (y : Symbol) → slice_get part k ≡ Some y → option_and_then (λ p. slice_get places p) (position (symbol_eq y) all) ≡ Some k

-- the second list begins with the first
abbrev pub Begins : List Symbol → List Symbol → Type 0
Begins xs ys = (k : ℕ) (y : Symbol) → slice_get xs k ≡ Some y → slice_get ys k ≡ Some y

-- the part is one of these symbols, now and as both were marked
pub record IsPartOf (symbols : Marked) (part : Part) : Type 0 where
  pub leads : Leads symbols.all part.places part.all
  pub led : Leads symbols.marked part.places part.marked
  pub symbols_grew : Begins symbols.marked symbols.all
  pub part_grew : Begins part.marked part.all
