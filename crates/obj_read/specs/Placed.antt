-- The constants of the terms so far, and a map of their numbers.
use Rattle.std.specs.Prelude.{◌≡◌, ℕ, Bool, ◌&&◌, ◌==◌, List, [], ◌∷◌, ◌++◌, slice_get, slice_set, Some, position}
use Rattle.std.specs.HashMap.{get, HashMap}
use Rattle.obj_cards.specs.declared.card.CardRld.{CardRld}
use Rattle.sym_mod.specs.declared.module.SymConst.{SymConst}
use Rattle.sym_mod.specs.declared.module.SymTerm.{SymTerm}
use Rattle.obj_read.specs.declared.numbered.Numbered.{Numbered}
use Rattle.obj_read.specs.declared.constants.Gathered.{Gathered}
use Rattle.obj_read.specs.declared.terms.BytePlace.{BytePlace}
use Rattle.obj_read.specs.Module.{leaders, constants}
use Rattle.obj_read.specs.Covered.{byte_eq, place}
use Rattle.obj_read.specs.Indexed.{or_place}

abbrev pub stands_at : ℕ → ℕ → CardRld → Bool
stands_at s a f = s == f.p && a == f.address

-- the map has the number of the constant at each place
abbrev pub IsPlaced : {S : Type 0} → List CardRld → HashMap BytePlace ℕ S → Type 0
IsPlaced terms numbers = (s a : ℕ) → get byte_eq numbers (place s a) ≡ position (stands_at s a) (leaders [] terms)

pub record IsGathered (items : List Numbered) (terms : List CardRld) (g : Gathered) : Type 0 where
  pub constants : g.constants.items ≡ constants items terms
  pub numbers : IsPlaced terms g.numbers

-- what the map had, and the number at the place if it had none there
abbrev pub HasNumber : {S : Type 0} → HashMap BytePlace ℕ S → HashMap BytePlace ℕ S → BytePlace → ℕ → Type 0
HasNumber old new at n = (s a : ℕ) → get byte_eq new (place s a) ≡ or_place (get byte_eq old (place s a)) (byte_eq at (place s a)) n

-- the constant of the number has one more term
abbrev pub IsJoined : List SymConst → List SymConst → ℕ → SymTerm → Type 0
IsJoined old new n t = (c : SymConst) → slice_get old n ≡ Some c → new ≡ slice_set old n (record c { terms = c.terms ++ t ∷ [] })
