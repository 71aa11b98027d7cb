-- Steps of linking one after another, up to a refusal.
use Rattle.std.specs.Prelude.{List, [], ◌∷◌, ◌++◌, Option, Some, None}
use Rattle.le_bytes.specs.declared.refusal.Spot.{Spot}
use Rattle.le_bytes.specs.declared.refusal.Refusal.{Refusal}
use Rattle.ctl_cards.specs.declared.statement.Statement.{Statement}
use Rattle.sym_mod.specs.declared.module.SymModule.{SymModule}

-- a set or member is entered, a module comes, or a statement other than INCLUDE, by its first card
pub data Step : Type 0 where
  Enters : Step
  Brings : SymModule → Step
  Says : Spot → Statement → Step

-- the steps, and what is refused after them
pub record Unfolded : Type 0 where
  pub steps : List Step
  pub refusal : Option Refusal

abbrev pub nothing : Unfolded
nothing = record { steps = []; refusal = None }

abbrev pub one_step : Step → Unfolded
one_step x = record { steps = x ∷ []; refusal = None }

abbrev pub refused : Refusal → Unfolded
refused r = record { steps = []; refusal = Some r }

-- what comes after steps that nothing is refused after
abbrev pub continued : List Step → Unfolded → Option Refusal → Unfolded
continued steps v (Some r) = record { steps = steps; refusal = Some r }
continued steps v None = record { steps = steps ++ v.steps; refusal = v.refusal }

-- one after the other
unfoldable pub followed : Unfolded → Unfolded → Unfolded
followed u v = continued u.steps v u.refusal

-- all, one after the other
unfoldable pub in_turn : List Unfolded → Unfolded
in_turn [] = nothing
in_turn (u ∷ us) = followed u (in_turn us)
