-- A module in one block (this project's profile).
use Rattle.std.specs.Prelude.{ℕ, if◌then◌else◌, Result, Ok, Err}
use Rattle.le_bytes.specs.declared.record_what.PlaceWhat.{PlaceWhat}
use Rattle.le_bytes.specs.declared.record_what.PlaceWhat.TheVariants.{BadOrigin}
use Rattle.member_model.specs.Placing.{is_origin}
use Rattle.fetch_places.specs.declared.placement.Placement.{Placement}
use Rattle.fetch_places.specs.declared.placement.Placement.TheVariants.{Block}

-- the block from an address on, or that a module of this length may not begin there
abbrev pub block_placement : ℕ → ℕ → Result Placement PlaceWhat
block_placement at size = if is_origin size at then Ok (Block at size) else Err BadOrigin
