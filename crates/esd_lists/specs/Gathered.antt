-- What is gathered by name from the items.
use Rattle.std.specs.Prelude.{ℕ, ◌-◌, max, ◌&&◌, if◌then◌else◌, List, [], ◌∷◌, ◌++◌, length, position, slice_get, Option, Some, None, unwrap_or, option_map, option_and_then}
use Rattle.std.specs.Option.{option_or, option_map_or}
use Rattle.le_bytes.specs.declared.name.Name.{Name}
use Rattle.le_bytes.specs.Names.{name_eq}
use Rattle.sym_mod.specs.Kinds.{kind_of, is_sd, is_register}
use Rattle.sym_mod.specs.declared.program.Label.{Label}
use Rattle.linking_model.specs.Kept.{Sight, Symbol, ByName, symbol_eq, is_area_named}
use Rattle.linking_model.specs.Merged.{is_label_named}
use Rattle.esd_index.specs.Contents.{Contents}
use Rattle.esd_index.specs.Parts.{stands_at}
use Rattle.esd_lists.specs.declared.by_name.Area.{Area}
use Rattle.esd_lists.specs.declared.by_name.Extent.{Extent}
use Rattle.esd_lists.specs.declared.by_name.First.{First}
use Rattle.esd_lists.specs.declared.reading.Reading.{Reading}
use Rattle.esd_lists.specs.Looked.{rank_by, seen_by, home_by}

-- what stands at y after v was put at n
abbrev pub put_in : {V : Type 0} → Name → V → Name → Option V → Option V
put_in n v y o = if name_eq n y then Some v else o

-- before any CM item
abbrev pub no_area : Area
no_area = record { users = []; length = 0 }

-- the area that stands there
abbrev pub area_in : Option Area → Area
area_in o = unwrap_or o no_area

-- the length and the alignment that stand there
abbrev pub extent_in : Option Extent → Extent
extent_in o = unwrap_or o (record { length = 0; align = 1 })

-- the assembled address of an item, 0 where there is none
abbrev pub base_of : Option Sight → ℕ
base_of o = option_map_or (λ x. x.item.base) o 0

-- the label at an item
unfoldable pub label_by : Contents → List Reading → Sight → Option Label
label_by c xs x =
    option_map
    (λ i. record { name = x.item.name; rank = rank_by c (ByName x.item.name); section = i; offset = x.item.base - base_of (seen_by xs x.of_module x.item.owner) })
    (home_by c xs x.of_module x.item.owner)

-- what the first SD item of a name brings
abbrev pub first_of : Sight → First
first_of x = record { segment = x.segment; length = x.item.length }

-- what the first SD item of a name brings, by the place of the name among the names of SD items
abbrev pub control_at : List Symbol → List First → Name → Option First
control_at names xs y = option_and_then (λ k. slice_get xs k) (position (symbol_eq (ByName y)) names)

-- ---- one item more

-- the first kept label of a name
unfoldable pub label_step : Contents → List Reading → Name → Option Label → Sight → Option Label
label_step c xs y o x = option_or o (if is_label_named y x then label_by c xs x else None)

-- what first SD items bring, and what x brings at the end where its name stands next among the names of SD items
unfoldable pub control_listed : List Symbol → List First → Sight → List First
control_listed names xs x = if is_sd (kind_of x.item) && stands_at names (length xs) (ByName x.item.name) then xs ++ first_of x ∷ [] else xs

-- the CM items of a name
unfoldable pub area_step : Name → Area → Sight → Area
area_step y a x = if is_area_named y x then record { users = a.users ++ x.segment ∷ []; length = max a.length x.item.length } else a

-- the register items of a name
unfoldable pub extent_step : Name → Extent → Sight → Extent
extent_step y e x =
    if is_register x.item.kind && name_eq x.item.name y
    then record { length = max e.length x.item.length; align = max e.align x.item.align }
    else e
