-- When a module is sound without some of its items.
use Rattle.std.specs.Prelude.{◌≡◌, ℕ, true, false, Bool, List, length, slice_get, All, AllPairs, IsFalse, IsSomeAnd, Some, ⊤}
use Rattle.sym_mod.specs.declared.module.Item.{Item}
use Rattle.sym_mod.specs.declared.module.ItemKind.TheVariants.{Label}
use Rattle.sym_mod.specs.declared.module.SymTarget.{SymTarget}
use Rattle.sym_mod.specs.declared.module.SymTarget.TheVariants.{Own}
use Rattle.sym_mod.specs.declared.module.SymModule.{SymModule}
use Rattle.sym_mod.specs.Kinds.{is_register}
use Rattle.sym_mod.specs.Sound.{HasName, IsSoundItem, IsSoundConst, IsSoundEntry, LieInItem, AreApart}
use Rattle.sym_edit.specs.Without.{stays}

-- no register goes, and a label of an item that goes does too
pub record MayGo (gone : List Bool) (items : List Item) : Type 0 where
  pub symbols : (i : ℕ) (x : Item) → slice_get gone i ≡ Some true → slice_get items i ≡ Some x → IsFalse (is_register x.kind)
  pub labels : (i : ℕ) (x : Item) → slice_get gone i ≡ Some false → slice_get items i ≡ Some x → x.kind ≡ Label → stays gone x.owner ≡ true

-- an item that goes and is referred to has a name
abbrev pub IsNamedIfGone : List Bool → List Item → SymTarget → Type 0
IsNamedIfGone gone items (Own i) = slice_get gone i ≡ Some true → IsSomeAnd (slice_get items i) (λ x. HasName x.name)
IsNamedIfGone gone items _ = ⊤

-- the module is sound, but for what goes
pub record IsSoundBut (gone : List Bool) (m : SymModule) : Type 0 where
  pub long : length gone ≡ length m.items
  pub going : MayGo gone m.items
  pub items : (i : ℕ) (x : Item) → slice_get gone i ≡ Some false → slice_get m.items i ≡ Some x → IsSoundItem m.items x
  pub fragments : All (λ f. LieInItem m.items f.item f.offset (length f.bytes)) m.fragments
  pub constants : All (IsSoundConst m.items) m.constants
  pub named : All (λ c. All (λ t. IsNamedIfGone gone m.items t.target) c.terms) m.constants
  pub apart : AllPairs AreApart m.constants
  pub entry : IsSoundEntry m.items m.entry
