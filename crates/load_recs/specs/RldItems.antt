-- The iterator over relocation items.
use Rattle.std.specs.Prelude.{◌≡◌, ◌<◌, List, [], ◌∷◌, length, Option, Some, None}
use Rattle.load_recs.specs.declared.items.RldItem.{RldItem}
use Rattle.load_recs.specs.declared.relocation_items.RldItems.{RldItems}
use Rattle.load_recs.specs.Relocations.{rlds_after, left_after}

-- the items that are still to come
abbrev pub items_left : RldItems → List RldItem
items_left it = rlds_after it.kept it.rest.now

-- one step: the next item, or that none is left
abbrev pub YieldsItem : RldItems → Option RldItem → RldItems → Type 0
YieldsItem old None new = (items_left old ≡ []) × (new ≡ old) × (left_after old.kept old.rest.now ≡ old.rest.now)
YieldsItem old (Some item) new =
    (items_left old ≡ item ∷ items_left new) × (length new.rest.now < length old.rest.now)
    × (left_after old.kept old.rest.now ≡ left_after new.kept new.rest.now)
