-- The constants at places.
use Rattle.std.specs.Prelude.{Bool, if◌then◌else◌, List, Option, Some, None, filter_map, slice_get}
use Rattle.sym_mod.specs.declared.module.Item.{Item}
use Rattle.sym_mod.specs.declared.module.SymConst.{SymConst}
use Rattle.esd_index.specs.declared.constants.Spot.{Spot}
use Rattle.esd_index.specs.Contents.{Contents}
use Rattle.esd_index.specs.Steps.{flag_at, with_constant}

-- the constants at these places of the list
abbrev pub constants_at : List SymConst → List Spot → List SymConst
constants_at constants spots = filter_map (λ s. slice_get constants s.place) spots

-- the constant at a place, where there is one
unfoldable pub with_spot : List Item → List SymConst → Contents → Spot → Contents
with_spot items constants c s = with_found (slice_get constants s.place)
  where
    with_found : Option SymConst → Contents
    with_found (Some x) = with_constant items c x
    with_found None = c

-- a constant, where it stands in a marked item
unfoldable pub with_kept : List Item → List Bool → Contents → SymConst → Contents
with_kept items kept c x = if flag_at kept x.item then with_constant items c x else c
