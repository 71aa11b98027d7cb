-- What a program needs of its modules, beside their soundness, to be written as a member: names of eight bytes, and
-- labels in text. The types of names and modules keep neither.
use Rattle.std.specs.Prelude.{List, slice_get, All, IsSomeAnd, IsTrue, ⊤}
use Rattle.sym_mod.specs.declared.module.Item.{Item}
use Rattle.sym_mod.specs.declared.module.ItemKind.{ItemKind}
use Rattle.sym_mod.specs.declared.module.ItemKind.TheVariants.{Label}
use Rattle.sym_mod.specs.declared.module.SymConst.{SymConst}
use Rattle.sym_mod.specs.declared.module.SymTarget.{SymTarget}
use Rattle.sym_mod.specs.declared.module.SymTarget.TheVariants.{Named}
use Rattle.sym_mod.specs.declared.module.SymModule.{SymModule}
use Rattle.sym_mod.specs.Kinds.{has_text}
use Rattle.linking_model.specs.Kept.{Read}
use Rattle.member_laws.specs.Linkable.{HasEightBytes}

-- the name by which a target refers has eight bytes
abbrev pub RefersWhole : SymTarget → Type 0
RefersWhole (Named name) = HasEightBytes name
RefersWhole _ = ⊤

-- so it is with each term of a constant
abbrev pub HasWholeTerms : SymConst → Type 0
HasWholeTerms c = All (λ t. RefersWhole t.target) c.terms

-- a label stands in an item that has text
abbrev pub LiesInText : List Item → Item → ItemKind → Type 0
LiesInText items x Label = IsSomeAnd (slice_get items x.owner) (λ owner. IsTrue (has_text owner.kind))
LiesInText items x _ = ⊤

-- names of eight bytes, and each label in text
pub record IsWhole (m : SymModule) : Type 0 where
  pub names : All (λ x. HasEightBytes x.name) m.items
  pub terms : All HasWholeTerms m.constants
  pub labels : All (λ x. LiesInText m.items x x.kind) m.items

-- the module that was read is whole
abbrev pub IsWholeRead : Read → Type 0
IsWholeRead r = IsWhole r.module_
