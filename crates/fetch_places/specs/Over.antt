-- Sections over areas (this project's profile of scatter loading).
use Rattle.std.specs.Prelude.{◌≡◌, ℕ, ◌<◌, ◌≤◌, ◌^◌, List, [], ◌∷◌, map, Option, Some}
use Rattle.le_bytes.specs.declared.name.Name.{Name}
use Rattle.load_recs.specs.declared.items.SymbolItem.{SymbolItem}
use Rattle.linking_model.specs.Scattered.{Area as Left}
use Rattle.member_model.specs.Placing.{addresses_over, homeless, sections_of}
use Rattle.fetch_places.specs.declared.placement.Area.{Area}
use Rattle.fetch_places.specs.declared.placement.Placement.{Placement}
use Rattle.fetch_places.specs.declared.placement.Placement.TheVariants.{Block, Scattered}
use Rattle.fetch_places.specs.declared.areas.AreaFault.{AreaFault}
use Rattle.fetch_places.specs.declared.areas.AreaFault.TheVariants.{NoStorage, Memory}

-- what is left of an area into which nothing is placed
abbrev pub whole_area : Area → Left
whole_area a = record { mark = a.from; end = a.to }

-- what is left of these areas before the first section is placed
abbrev pub left_of : List Area → List Left
left_of areas = map whole_area areas

-- areas from `low` on that are not empty, ascend, do not meet, and lie below 16 MB
abbrev pub AreInOrder : ℕ → List Area → Type 0
AreInOrder low [] = Unit {0}
AreInOrder low (a ∷ rest) = (low ≤ a.from) × (a.from < a.to) × (a.to < 2 ^ 24) × AreInOrder a.to rest

-- the placement has the address of each section over the areas
abbrev pub IsOver : List Area → List SymbolItem → Placement → Type 0
IsOver areas symbols (Scattered addresses) = addresses_over (left_of areas) symbols ≡ Some addresses
IsOver areas symbols (Block at size) = ⊥

-- the first section that fits in none of the areas has the name; want of memory says nothing
abbrev pub IsHomeless : List Area → List SymbolItem → AreaFault → Type 0
IsHomeless areas symbols (NoStorage name) = homeless (left_of areas) (sections_of symbols) ≡ Some name
IsHomeless areas symbols Memory = Unit {0}
