-- What is true of the facts where no card had a fault.
use Rattle.std.specs.Prelude.{◌≡◌, ℕ, ◌+◌, ◌≤◌, ◌⊎◌, true, false, List, [], ◌∷◌, filter, Option, Some, None}
use Rattle.std.specs.List.{AllByRecursion, AllPairs}
use Rattle.std.specs.Option.{option_map_or}
use Rattle.obj_cards.specs.declared.card.CardRld.{CardRld}
use Rattle.obj_cards.specs.declared.card.EndStart.{EndStart}
use Rattle.obj_cards.specs.Esd.{IsEsdItem}
use Rattle.obj_cards.specs.Rld.{IsCardRld}
use Rattle.obj_cards.specs.End.{IsEndStart}
use Rattle.obj_read.specs.declared.numbered.Numbered.{Numbered}
use Rattle.obj_read.specs.declared.facts.Facts.{Facts}
use Rattle.obj_read.specs.declared.gathering.Step.{Step}
use Rattle.obj_read.specs.Facts.{has_text, with_esdid}
use Rattle.obj_read.specs.Flags.{kind_of_flag, length_of_flag}
use Rattle.obj_read.specs.Module.{same_place, leaders}
use Rattle.obj_read.specs.Faults.{takes_reserved_name, fits_kind, joins}
use Rattle.obj_read.specs.Steps.{fault_at_end}

pub record IsKeptItem (x : Numbered) : Type 0 where
  pub item : IsEsdItem x.item
  pub name : takes_reserved_name x.item.kind x.item ≡ false

-- a control section has the ESDID
abbrev pub HasSection : List Numbered → ℕ → Type 0
HasSection items id = option_map_or (λ x. has_text x.item.kind) (with_esdid id items) false ≡ true

pub record IsKeptTerm (items : List Numbered) (f : CardRld) : Type 0 where
  pub card : IsCardRld f
  pub section : HasSection items f.p
  pub fits : fits_kind items f.r (kind_of_flag f.flag) ≡ true

-- the fields share no byte
abbrev pub AreDisjoint : CardRld → CardRld → Type 0
AreDisjoint f g =
    f.p ≡ g.p → (f.address + length_of_flag f.flag ≤ g.address) ⊎ (g.address + length_of_flag g.flag ≤ f.address)

-- the terms at one place: the first, and others that join it
abbrev pub AreJoined : CardRld → List CardRld → Type 0
AreJoined g [] = ⊥
AreJoined g (f ∷ more) = (f ≡ g) × AllByRecursion (λ h. joins h g ≡ true) more

pub record AreConstants (terms : List CardRld) : Type 0 where
  pub apart : AllPairs AreDisjoint (leaders [] terms)
  pub joined : AllByRecursion (λ g. AreJoined g (filter (same_place g) terms)) (leaders [] terms)

pub record IsKept (f : Facts) : Type 0 where
  pub items : AllByRecursion IsKeptItem f.items
  pub texts : AllByRecursion (λ t. HasSection f.items t.esdid) f.texts
  pub terms : AllByRecursion (IsKeptTerm f.items) f.terms
  pub constants : AreConstants f.terms

-- the END card has no fault either
abbrev pub EndsWell : Facts → Option EndStart → Type 0
EndsWell f None = Unit {0}
EndsWell f (Some start) = IsEndStart start × (fault_at_end f.items f.texts f.terms start ≡ None)

abbrev pub StaysKept : Facts → Step → Type 0
StaysKept f step = IsKept f → IsKept step.facts × EndsWell step.facts step.start
