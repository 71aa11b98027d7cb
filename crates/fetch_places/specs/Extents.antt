-- Sections in storage, each at its address, and whether they stand apart (this project's profile of scatter loading).
use Rattle.std.specs.Prelude.{◌≡◌, ℕ, ◌+◌, ◌≤◌, Bool, true, ◌&&◌, ◌==◌, nat_le, if◌then◌else◌, List, [], ◌∷◌, length, count_by, All}
use Rattle.load_recs.specs.declared.items.SymbolItem.{SymbolItem}
use Rattle.linking_model.specs.Numbers.{is_among}
use Rattle.member_model.specs.Placing.{sections_of}
use Rattle.fetch_places.specs.declared.extent.Extent.{Extent}
use Rattle.fetch_places.specs.declared.placement.Placement.{Placement}
use Rattle.fetch_places.specs.declared.placement.Placement.TheVariants.{Block, Scattered}

-- the extent has the address
abbrev pub has : ℕ → Extent → Bool
has a x = is_among x.at x.count a

-- no address lies in two of the extents
abbrev pub StandApart : List Extent → Type 0
StandApart xs = (a : ℕ) → count_by (has a) xs ≤ 1

-- the extent ends at 16,777,215 or below
abbrev pub EndsLow : Extent → Type 0
EndsLow x = x.at + x.count ≤ 16777215

-- sections at these addresses, as far as there are both
abbrev pub extents_at : List ℕ → List SymbolItem → List Extent
extents_at [] sections = []
extents_at (a ∷ addresses) [] = []
extents_at (a ∷ addresses) (x ∷ sections) = record { at = a; count = x.length } ∷ extents_at addresses sections

-- each section has an address, ends low, and shares no byte with another
pub record StandEach (addresses : List ℕ) (sections : List SymbolItem) : Type 0 where
  pub each : length addresses ≡ length sections
  pub low : All EndsLow (extents_at addresses sections)
  pub apart : StandApart (extents_at addresses sections)

-- the sections among the symbols can stand as the placement says; a block is judged when it is placed
abbrev pub Fits : Placement → List SymbolItem → Type 0
Fits (Block at size) symbols = Unit {0}
Fits (Scattered addresses) symbols = StandEach addresses (sections_of symbols)

-- ---- how it is found

-- from an address on, one after the other, but for those of no bytes
abbrev pub are_in_turn : ℕ → List Extent → Bool
are_in_turn end [] = true
are_in_turn end (x ∷ xs) =
    if x.count == 0 then are_in_turn end xs else nat_le end x.at && are_in_turn (x.at + x.count) xs
