-- What it means to add a module to those that were read.
use Rattle.std.specs.Prelude.{◌≡◌, ◌<◌, ℕ, nat_lt, if◌then◌else◌, List, [], ◌∷◌, ◌++◌, All, Option, Some, None, Result, Ok, Err}
use Rattle.le_bytes.specs.declared.name.Name.{Name}
use Rattle.sym_mod.specs.declared.module.SymModule.{SymModule}
use Rattle.sym_mod.specs.Sound.{IsSoundModule}
use Rattle.linking_model.specs.Kept.{Read}
use Rattle.linking_model.specs.Merged.{double_definition, symbol_count}
use Rattle.esd_merge.specs.declared.fault.MergeFault.{MergeFault}
use Rattle.esd_merge.specs.declared.fault.MergeFault.TheVariants.{DoubleDefinition, TooManySymbols, Memory}

-- the modules with one more, read in a segment
abbrev pub with_module : List Read → SymModule → ℕ → List Read
with_module rs m s = rs ++ record { module_ = m; segment = s } ∷ []

-- the first name with a second meaning, else more symbols than a member can number
unfoldable pub merge_fault : List Read → Option MergeFault
merge_fault rs = double_fault (double_definition rs)
  where
    double_fault : Option Name → Option MergeFault
    double_fault (Some n) = Some (DoubleDefinition n)
    double_fault None = if nat_lt 32511 (symbol_count rs) then Some (TooManySymbols (symbol_count rs)) else None

-- the module is added where it makes no fault; after a fault the modules are as before
abbrev pub AddAnswer : {A : Type 0} → List Read → SymModule → ℕ → Result A MergeFault → List Read → Type 0
AddAnswer old m s (Ok _) new = (merge_fault (with_module old m s) ≡ None) × (new ≡ with_module old m s)
AddAnswer old m s (Err Memory) new = new ≡ old
AddAnswer old m s (Err f) new = (merge_fault (with_module old m s) ≡ Some f) × (new ≡ old)

-- a module that is sound, in a segment
pub record IsSoundRead (r : Read) : Type 0 where
  pub sound : IsSoundModule r.module_
  pub placed : 0 < r.segment

-- what the modules that were read keep
pub record IsMerged (rs : List Read) : Type 0 where
  pub reads : All IsSoundRead rs
  pub faultless : merge_fault rs ≡ None
