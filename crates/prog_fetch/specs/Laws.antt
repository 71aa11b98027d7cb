-- Laws, each the contract of a function.
use Rattle.std.specs.Prelude.{◌≡◌, ℕ, List, None, Ok}
use Rattle.pds_directory.specs.declared.entry.Entry.{Entry}
use Rattle.member_model.specs.Facts.{no_facts, walked}
use Rattle.member_model.specs.FirstBad.{fetch_bad}
use Rattle.fetch_places.specs.declared.placement.Area.{Area}
use Rattle.fetch_places.specs.declared.placement.Placement.{Placement}
use Rattle.fetch_places.specs.Extents.{Fits}
use Rattle.prog_fetch.specs.Scattering.{Places}

-- what a member is placed by is what a fetch of it reads, so that its sections fit where they were placed
abbrev pub PlacedMembersFit : Type 0
PlacedMembersFit =
    (e : Entry) (areas : List Area) (records : List (List ℕ)) (p : Placement) → Places e areas records (Ok p) → fetch_bad e records ≡ None
    → Fits p (walked 1 no_facts records).symbols
