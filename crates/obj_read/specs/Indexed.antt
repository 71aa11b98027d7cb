-- The places of items in a map by ESDID.
use Rattle.std.specs.Prelude.{◌≡◌, ℕ, Bool, nat_eq, if◌then◌else◌, List, Option, Some, None}
use Rattle.std.specs.HashMap.{get, HashMap}
use Rattle.obj_read.specs.declared.numbered.Numbered.{Numbered}
use Rattle.obj_read.specs.Facts.{number_of, has_esdid}

abbrev pub IsIndexed : {S : Type 0} → List Numbered → HashMap ℕ ℕ S → Type 0
IsIndexed items places = (id : ℕ) → get nat_eq places id ≡ number_of id items

-- where there is a map, it is of these items
abbrev pub IsIndexedIfMany : {S : Type 0} → List Numbered → Option (HashMap ℕ ℕ S) → Type 0
IsIndexedIfMany items None = Unit {0}
IsIndexedIfMany items (Some places) = IsIndexed items places

-- what was found before, or else what is new where it has what is asked for
abbrev pub or_place : {X : Type 0} → Option X → Bool → X → Option X
or_place (Some old) has new = Some old
or_place None has new = if has then Some new else None

abbrev pub HasPlace : {S : Type 0} → HashMap ℕ ℕ S → HashMap ℕ ℕ S → Numbered → ℕ → Type 0
HasPlace old new x place = (id : ℕ) → get nat_eq new id ≡ or_place (get nat_eq old id) (has_esdid id x) place
