-- What is kept beside the relocation items of a member: how long the field at each place is.
use Rattle.std.specs.Prelude.{◌≡◌, ℕ, ◌+◌, Bool, false, not, if◌then◌else◌, ◌&&◌, ◌==◌, nat_lt, List, [], ◌∷◌, map, find, Option, Some, None, option_map}
use Rattle.std.specs.List.{list_any}
use Rattle.std.specs.Option.{option_map_or}
use Rattle.load_recs.specs.declared.items.RldItem.{RldItem}
use Rattle.member_model.specs.Symbols.{field_kind, field_length}
use Rattle.member_model.specs.Facts.{Field}
use Rattle.member_model.specs.Faults.{shares_wrongly}
use Rattle.member_walk.specs.declared.field_places.Extent.{Extent}
use Rattle.member_walk.specs.declared.field_places.FieldPlace.{FieldPlace}
use Rattle.member_walk.specs.declared.fields.SegmentField.{SegmentField}

-- a relocation item of a segment, as facts have it
abbrev pub field_of : SegmentField → Field
field_of x = record { segment = x.segment; item = x.item }

-- the items in a segment
abbrev pub fields_in : ℕ → List RldItem → List SegmentField
fields_in segment items = map (λ x. record { segment = segment; item = x }) items

-- the items alone
abbrev pub items_of : List SegmentField → List RldItem
items_of fields = map (λ x. x.item) fields

-- the length of an item's field, and whether it is A-type
abbrev pub extent_of : RldItem → Extent
extent_of x = record { length = field_length x; is_a_type = field_kind x == 0 }

-- the field begins at this place
abbrev pub begins_at : FieldPlace → RldItem → Bool
begins_at place x = x.p == place.section && x.address == place.address

-- the extent of the first field that begins at this place
unfoldable pub extent_at : List RldItem → FieldPlace → Option Extent
extent_at items place = option_map extent_of (find (begins_at place) items)

-- the item's field and one of this extent at an address of its section have a byte, and are not two A-type items of one
-- place and length
abbrev pub clashes : RldItem → ℕ → Extent → Bool
clashes x address other =
    nat_lt x.address (address + other.length) && nat_lt address (x.address + field_length x)
    && not (x.address == address && field_length x == other.length && field_kind x == 0 && other.is_a_type)

-- a field that begins at this address of the item's section shares a byte with the item's field, and may not
abbrev pub clash_at : (FieldPlace → Option Extent) → RldItem → ℕ → Bool
clash_at extents x address = option_map_or (clashes x address) (extents (record { section = x.p; address = address })) false

-- the item shares a byte with one of these, and may not
unfoldable pub overlaps : List RldItem → RldItem → Bool
overlaps items x = list_any (shares_wrongly x) items

-- where the item's field begins
abbrev pub place_of : RldItem → FieldPlace
place_of x = record { section = x.p; address = x.address }

-- the extent of the item's field, if it begins at this place
abbrev pub extent_after : RldItem → FieldPlace → Option Extent
extent_after x place = if begins_at place x then Some (extent_of x) else None

-- two places are one
abbrev pub place_eq : FieldPlace → FieldPlace → Bool
place_eq a b = a.section == b.section && a.address == b.address

-- each of these fields has the extent that the items tell of its place
abbrev pub AreAlike : List RldItem → List RldItem → Type 0
AreAlike items [] = Unit {0}
AreAlike items (x ∷ xs) = (extent_at items (place_of x) ≡ Some (extent_of x)) × AreAlike items xs

-- the extents by place are those of the items, and all fields that begin at one place have one extent
pub record AreHeld (items : List RldItem) (extents : FieldPlace → Option Extent) : Type 0 where
  pub held : (place : FieldPlace) → extents place ≡ extent_at items place
  pub alike : AreAlike items items
