-- Walking over relocation items.
use Rattle.std.proofs.Common.{◌≡◌, ℕ, ◌<◌, Bool, true, false, List, [], ◌∷◌, length, Option, Some, None, refl, sym, subst, arith}
use Rattle.load_recs.specs.declared.items.RldItem.{RldItem}
use Rattle.load_recs.specs.declared.relocation_items.Pointers.{Pointers}
use Rattle.load_recs.specs.Relocations.{first_item, kept_by, is_wrong_flag, is_joined, rlds_after, left_after, is_wrong_after}

-- what an item at the front, or none, makes of the walk
abbrev pub Steps : Option Pointers → List ℕ → Option (RldItem × List ℕ) → Type 0
Steps kept bytes None = (rlds_after kept bytes ≡ []) × (left_after kept bytes ≡ bytes)
Steps kept bytes (Some x) =
    (rlds_after kept bytes ≡ x.0 ∷ rlds_after (kept_by x.0) x.1) × (length x.1 < length bytes)
    × (left_after kept bytes ≡ left_after (kept_by x.0) x.1)

pub steps : (kept : Option Pointers) (bytes : List ℕ) → Steps kept bytes (first_item kept bytes)
steps (Some p) [] = (refl, refl)
steps (Some p) (a ∷ []) = (refl, refl)
steps (Some p) (a ∷ b ∷ []) = (refl, refl)
steps (Some p) (a ∷ b ∷ c ∷ []) = (refl, refl)
steps (Some p) (a ∷ b ∷ c ∷ d ∷ rest) = (refl, omega arith, refl)
steps None [] = (refl, refl)
steps None (a ∷ []) = (refl, refl)
steps None (a ∷ b ∷ []) = (refl, refl)
steps None (a ∷ b ∷ c ∷ []) = (refl, refl)
steps None (a ∷ b ∷ c ∷ d ∷ []) = (refl, refl)
steps None (a ∷ b ∷ c ∷ d ∷ e ∷ []) = (refl, refl)
steps None (a ∷ b ∷ c ∷ d ∷ e ∷ f ∷ []) = (refl, refl)
steps None (a ∷ b ∷ c ∷ d ∷ e ∷ f ∷ g ∷ []) = (refl, refl)
steps None (a ∷ b ∷ c ∷ d ∷ e ∷ f ∷ g ∷ h ∷ rest) = (refl, omega arith, refl)

pub steps_by : (kept : Option Pointers) (bytes : List ℕ) (o : Option (RldItem × List ℕ)) → o ≡ first_item kept bytes → Steps kept bytes o
steps_by kept bytes o e = subst (Steps kept bytes) (sym e) (steps kept bytes)

-- an item with a wrong flag decides, and another leaves the rest
pub wrong_found : (joined : Bool) (item : RldItem) (items : List RldItem) → is_wrong_flag item.flag ≡ true → is_wrong_after joined (item ∷ items) ≡ true
wrong_found joined item items wrong = rw wrong refl

pub wrong_passed : (joined : Bool) (item : RldItem) (items : List RldItem) → is_wrong_flag item.flag ≡ false
    → is_wrong_after joined (item ∷ items) ≡ is_wrong_after (is_joined item.flag) items
wrong_passed joined item items fine = rw fine refl
