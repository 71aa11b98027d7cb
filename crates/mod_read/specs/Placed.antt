-- The constants of the relocation items so far, and a map of their numbers.
use Rattle.std.specs.Prelude.{◌≡◌, ℕ, Bool, ◌&&◌, ◌==◌, nat_eq, if◌then◌else◌, List, [], ◌∷◌, ◌++◌, slice_get, slice_set, Option, Some, None, position}
use Rattle.std.specs.HashMap.{get, HashMap}
use Rattle.sym_mod.specs.declared.module.SymConst.{SymConst}
use Rattle.sym_mod.specs.declared.module.SymTerm.{SymTerm}
use Rattle.load_recs.specs.declared.items.SymbolItem.{SymbolItem}
use Rattle.load_recs.specs.declared.items.RldItem.{RldItem}
use Rattle.linking_model.specs.Names.{firsts}
use Rattle.member_model.specs.Symbols.{same_field}
use Rattle.mod_read.specs.declared.constants.FieldPlace.{FieldPlace}
use Rattle.mod_read.specs.declared.constants.Gathered.{Gathered}
use Rattle.mod_read.specs.Gathered.{constants_in}

-- two places are one
abbrev pub place_eq : FieldPlace → FieldPlace → Bool
place_eq a b = nat_eq a.section b.section && nat_eq a.address b.address

abbrev pub place : ℕ → ℕ → FieldPlace
place s a = record { section = s; address = a }

-- the field of x begins there
abbrev pub begins_at : ℕ → ℕ → RldItem → Bool
begins_at s a x = s == x.p && a == x.address

-- the map has the number of the constant at each place
abbrev pub IsPlaced : {S : Type 0} → List RldItem → HashMap FieldPlace ℕ S → Type 0
IsPlaced items numbers =
    (s a : ℕ) → get place_eq numbers (place s a) ≡ position (begins_at s a) (firsts same_field items)

pub record IsGathered (symbols : List SymbolItem) (items : List RldItem) (g : Gathered) : Type 0 where
  pub constants : g.constants.items ≡ constants_in symbols items
  pub numbers : IsPlaced items g.numbers

-- what was found before, or else what is new where it has what is asked for
abbrev pub or_place : {X : Type 0} → Option X → Bool → X → Option X
or_place (Some old) has new = Some old
or_place None has new = if has then Some new else None

-- what the map had, and the number at the place if it had none there
abbrev pub HasNumber : {S : Type 0} → HashMap FieldPlace ℕ S → HashMap FieldPlace ℕ S → FieldPlace → ℕ → Type 0
HasNumber old new at n =
    (s a : ℕ) → get place_eq new (place s a) ≡ or_place (get place_eq old (place s a)) (place_eq at (place s a)) n

-- the constant of the number has one more term
abbrev pub IsJoined : List SymConst → List SymConst → ℕ → SymTerm → Type 0
IsJoined old new n t =
    (c : SymConst) → slice_get old n ≡ Some c → new ≡ slice_set old n (record c { terms = c.terms ++ t ∷ [] })
