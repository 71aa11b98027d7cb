-- Which addresses a placement gives.
use Rattle.std.specs.Prelude.{ℕ, List, [], ◌∷◌}
use Rattle.load_recs.specs.declared.items.SymbolItem.{SymbolItem}
use Rattle.member_model.specs.Loaded.{Addresses, in_block, in_places}
use Rattle.member_model.specs.Placing.{sections_of}
use Rattle.fetch_places.specs.declared.extent.Extent.{Extent}
use Rattle.fetch_places.specs.declared.placement.Placement.{Placement}
use Rattle.fetch_places.specs.declared.placement.Placement.TheVariants.{Block, Scattered}
use Rattle.fetch_places.specs.Extents.{extents_at}

-- the address of each section, by its item number
abbrev pub addresses_by : List SymbolItem → Placement → Addresses
addresses_by symbols (Block at size) = in_block symbols at
addresses_by symbols (Scattered addresses) = in_places symbols addresses

-- what is placed: the whole module, or each section
abbrev pub extents_by : List SymbolItem → Placement → List Extent
extents_by symbols (Block at size) = record { at = at; count = size } ∷ []
extents_by symbols (Scattered addresses) = extents_at addresses (sections_of symbols)
