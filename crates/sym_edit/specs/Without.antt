-- A module without some of its items: for each item a Bool says whether it goes. With an item go its text and the
-- constants that stand in it. What refers to it refers to its name, and keeps its base. That sections may be left out
-- follows the REPLACE statement of GC28-6538.
use Rattle.std.specs.Prelude.{ℕ, Bool, false, not, if◌then◌else◌, List, [], ◌∷◌, map, take, count_by, slice_get, Option, Some, None, option_map, unwrap_or}
use Rattle.std.specs.Option.{option_map_or}
use Rattle.std.specs.List.{filter_map}
use Rattle.sym_mod.specs.declared.module.Item.{Item}
use Rattle.sym_mod.specs.declared.module.Frag.{Frag}
use Rattle.sym_mod.specs.declared.module.SymConst.{SymConst}
use Rattle.sym_mod.specs.declared.module.SymTerm.{SymTerm}
use Rattle.sym_mod.specs.declared.module.SymTarget.{SymTarget}
use Rattle.sym_mod.specs.declared.module.SymTarget.TheVariants.{Own, Named}
use Rattle.sym_mod.specs.declared.module.SymEntry.{SymEntry}
use Rattle.sym_mod.specs.declared.module.SymEntry.TheVariants.{None as NoEntry, At}
use Rattle.sym_mod.specs.declared.module.SymModule.{SymModule}
use Rattle.sym_mod.specs.Kinds.{is_label}

-- ---- numbers

-- there is an item n, and it stays
abbrev pub stays : List Bool → ℕ → Bool
stays gone n = option_map_or not (slice_get gone n) false

-- how many of the items before item n stay
abbrev pub stay_before : List Bool → ℕ → ℕ
stay_before gone n = count_by not (take n gone)

-- the new number of item n, none where it goes
unfoldable pub new_number : List Bool → ℕ → Option ℕ
new_number gone n = if stays gone n then Some (stay_before gone n) else None

-- ---- items

-- an item with the new number of its owner, where it is a label
unfoldable pub item_without : List Bool → Item → Item
item_without gone x = if is_label x.kind then record x { owner = unwrap_or (new_number gone x.owner) x.owner } else x

-- the elements that stay
abbrev pub remaining : {A : Type 0} → List Bool → List A → List A
remaining [] xs = []
remaining (g ∷ gone) [] = []
remaining (g ∷ gone) (x ∷ xs) = if g then remaining gone xs else x ∷ remaining gone xs

-- ---- text and constants

-- text in an item that stays
unfoldable pub fragment_without : List Bool → Frag → Option Frag
fragment_without gone f = option_map (λ n. record f { item = n }) (new_number gone f.item)

-- what refers to item i, which has this new number and is this item: to the item, or to its name
abbrev pub reference : ℕ → Option ℕ → Option Item → SymTarget
reference i (Some n) _ = Own n
reference i None (Some x) = Named x.name
reference i None None = Own i

-- a target; names and registers stay as they are
unfoldable pub target_without : List Bool → List Item → SymTarget → SymTarget
target_without gone items (Own i) = reference i (new_number gone i) (slice_get items i)
target_without gone items target = target

-- a term, with its base
abbrev pub term_without : List Bool → List Item → SymTerm → SymTerm
term_without gone items t = record t { target = target_without gone items t.target }

-- a constant in an item that stays
unfoldable pub constant_without : List Bool → List Item → SymConst → Option SymConst
constant_without gone items c =
    option_map (λ n. record c { item = n; terms = map (term_without gone items) c.terms }) (new_number gone c.item)

-- ---- entry

-- the place in an item that stays; a name stays in any case
unfoldable pub entry_without : List Bool → SymEntry → SymEntry
entry_without gone (At i offset) = option_map_or (λ n. At n offset) (new_number gone i) NoEntry
entry_without gone entry = entry

-- ---- the module

unfoldable pub without : List Bool → SymModule → SymModule
without gone m = record {
  items = map (item_without gone) (remaining gone m.items);
  fragments = filter_map (fragment_without gone) m.fragments;
  constants = filter_map (constant_without gone m.items) m.constants;
  entry = entry_without gone m.entry;
}
