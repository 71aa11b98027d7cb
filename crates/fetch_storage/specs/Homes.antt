-- In which part of storage each section stands.
use Rattle.std.specs.Prelude.{ℕ, ◌-◌, ◌==◌, if◌then◌else◌, List, [], ◌∷◌, length, map, slice_get, unwrap_or}
use Rattle.std.specs.List.{range_with_len}
use Rattle.load_recs.specs.declared.items.SymbolItem.{SymbolItem}
use Rattle.member_model.specs.Symbols.{is_section, section_rank, address_in_module}
use Rattle.member_model.specs.Placing.{sections_of}
use Rattle.fetch_places.specs.declared.placement.Placement.{Placement}
use Rattle.fetch_places.specs.declared.placement.Placement.TheVariants.{Block, Scattered}
use Rattle.fetch_storage.specs.declared.homes.Home.{Home}

-- ---- parts

-- the address of each part's first byte
abbrev pub origins_by : Placement → List ℕ
origins_by (Block at size) = at ∷ []
origins_by (Scattered addresses) = addresses

-- how many bytes each part has
abbrev pub sizes_by : List SymbolItem → Placement → List ℕ
sizes_by symbols (Block at size) = size ∷ []
sizes_by symbols (Scattered addresses) = map (λ x. x.length) (sections_of symbols)

-- the part in which section n stands, from 0, and the address in the module that the part's first byte has
abbrev pub home_by : List SymbolItem → Placement → ℕ → Home
home_by symbols (Block at size) n = record { part = 0; base = 0 }
home_by symbols (Scattered addresses) n = record { part = section_rank symbols n - 1; base = address_in_module symbols n }

-- that of each item
abbrev pub homes_by : List SymbolItem → Placement → List Home
homes_by symbols p = map (home_by symbols p) (range_with_len 1 (length symbols))

-- where there is no such item
abbrev pub no_home : Home
no_home = record { part = 0; base = 0 }

-- the home of item n
abbrev pub home_at : List Home → ℕ → Home
home_at homes n = if n == 0 then no_home else unwrap_or (slice_get homes (n - 1)) no_home

-- the home of an item that so many sections come before
abbrev pub home_of : Placement → SymbolItem → ℕ → Home
home_of (Block at size) x sections = no_home
home_of (Scattered addresses) x sections = record { part = if is_section x then sections else 0; base = x.address }
