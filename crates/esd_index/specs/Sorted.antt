-- Spots of kept constants, each put in its place.
use Rattle.std.specs.Prelude.{ℕ, ◌+◌, nat_lt, ◌==◌, Bool, true, not, ◌&&◌, ◌||◌, if◌then◌else◌, List, [], ◌∷◌}
use Rattle.std.specs.BTreeSet.{insert_key}
use Rattle.sym_mod.specs.declared.module.SymConst.{SymConst}
use Rattle.esd_index.specs.contracts.constants.SpotOrd.TheImpl.{cmp-value}
use Rattle.esd_index.specs.declared.constants.Spot.{Spot}
use Rattle.esd_index.specs.Steps.{flag_at}

-- where a constant stands: its item, its offset and its place in the list
abbrev pub spot : ℕ → SymConst → Spot
spot k c = record { item = c.item; offset = c.offset; place = k }

-- the spots of the constants that stand in marked items, in order, where they are numbered from k on
abbrev pub sorted_from : List Bool → ℕ → List SymConst → List Spot
sorted_from kept k [] = []
sorted_from kept k (c ∷ cs) =
    if flag_at kept c.item then insert_key (cmp-value).it (sorted_from kept (k + 1) cs) (spot k c) else sorted_from kept (k + 1) cs

-- no constant stands before the offset of that item, nor before one that precedes it
abbrev pub rise_from : ℕ → ℕ → List SymConst → Bool
rise_from item offset [] = true
rise_from item offset (c ∷ cs) = not (nat_lt c.item item || c.item == item && nat_lt c.offset offset) && rise_from c.item c.offset cs
