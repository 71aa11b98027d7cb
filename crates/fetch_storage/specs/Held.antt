-- What storage the parts of a placement hold.
use Rattle.std.specs.Prelude.{◌≡◌, ℕ, List, length, map}
use Rattle.std.specs.List.{range_with_len}
use Rattle.load_recs.specs.declared.items.SymbolItem.{SymbolItem}
use Rattle.linking_model.specs.Run.{Storage}
use Rattle.fetch_places.specs.declared.extent.Extent.{Extent}
use Rattle.fetch_places.specs.declared.placement.Placement.{Placement}
use Rattle.fetch_places.specs.Addresses.{extents_by}
use Rattle.fetch_storage.specs.declared.part.Part.{Part}
use Rattle.fetch_storage.specs.Homes.{origins_by, sizes_by, homes_by}
use Rattle.fetch_storage.specs.Kept.{Kept}

-- the bytes that stand in an extent
abbrev pub bytes_in : Storage → Extent → List ℕ
bytes_in M x = map M (range_with_len x.at x.count)

-- the part that has them
abbrev pub part_in : Storage → Extent → Part
part_in M x = record { origin = x.at; bytes = bytes_in M x }

-- parts that begin where the placement has them, and have its sizes
pub record Sized (symbols : List SymbolItem) (p : Placement) (kept : Kept) : Type 0 where
  pub origins : kept.origins ≡ origins_by p
  pub homes : kept.homes ≡ homes_by symbols p
  pub sizes : map length kept.content ≡ sizes_by symbols p

-- the parts of the placement, with what storage has at their addresses
abbrev pub holding : List SymbolItem → Placement → Storage → Kept
holding symbols p M = record {
  origins = origins_by p;
  homes = homes_by symbols p;
  content = map (bytes_in M) (extents_by symbols p);
}
