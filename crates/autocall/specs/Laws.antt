-- What holds of calls: from where the next one is searched, and what is left when there is none.
use Rattle.std.specs.Prelude.{◌≡◌, ◌⊎◌, ℕ, min, true, false, List, All, None}
use Rattle.le_bytes.specs.declared.name.Name.{Name}
use Rattle.pds_lib.specs.declared.set.Set.{Set}
use Rattle.linking_model.specs.Kept.{Read}
use Rattle.linking_model.specs.Merged.{unresolved}
use Rattle.sym_mod.specs.declared.program.Unknown.{Unknown}
use Rattle.esd_merge.specs.Calls.{WereCalled}
use Rattle.autocall.specs.Rules.{Rules, with_tried, is_stopped, was_tried}
use Rattle.autocall.specs.Calls.{library_of, next_call}
use Rattle.autocall.specs.Searched.{NoCallBefore}

-- ---- where to search

-- where no name before a place has a call, none has one before the lesser of that place and the first at which modules
-- that were added made a name one that is to be called
abbrev pub AddedKeepsPlace : Type 0
AddedKeepsPlace = (r : Rules) (old new : List Read) (sets : List Set) (k changed : ℕ)
    → NoCallBefore r old sets k → WereCalled old new changed → NoCallBefore r new sets (min k changed)

-- where no name before a place has a call, none has one after a name was tried
abbrev pub TriedKeepsPlace : Type 0
TriedKeepsPlace = (r : Rules) (rs : List Read) (sets : List Set) (k : ℕ) (n : Name)
    → NoCallBefore r rs sets k → NoCallBefore (with_tried r n) rs sets k

-- ---- what is left

-- where the name is not weak, a statement stops its call, it was tried, or no library that it is called from has it
abbrev pub IsLeft : Rules → List Set → Unknown → Type 0
IsLeft r sets u =
    u.weak ≡ false → (is_stopped r u.name ≡ true) ⊎ (was_tried r u.name ≡ true) ⊎ (library_of r sets u.name ≡ None)

-- when there is no next call, this holds of each unresolved name
abbrev pub NoCallIsLeft : Type 0
NoCallIsLeft = (r : Rules) (rs : List Read) (sets : List Set) → next_call r rs sets ≡ None → All (IsLeft r sets) (unresolved rs)
