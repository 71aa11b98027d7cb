-- The numbers of names.
use Rattle.std.specs.Prelude.{◌≡◌, ℕ, Bool, true, List, position, ◌&&◌, if◌then◌else◌, Option, Some, None}
use Rattle.std.specs.Option.{option_or}
use Rattle.le_bytes.specs.declared.name.Name.{Name}
use Rattle.le_bytes.specs.Names.{name_eq}
use Rattle.sym_mod.specs.declared.program.Label.{Label}
use Rattle.sym_mod.specs.declared.program.Unknown.{Unknown}
use Rattle.linking_model.specs.Kept.{Read}
use Rattle.linking_model.specs.Merged.{labels, unresolved}

-- the names are the same
abbrev pub is_named_so : Name → Name → Bool
is_named_so y n = name_eq n y

-- one name more
abbrev pub number_step : Name → ℕ → Name → Option ℕ → Option ℕ
number_step n i y o = option_or o (if true && name_eq n y then Some i else None)

-- the numbers of labels and of unresolved names are those of the program of these modules
pub record Means (rs : List Read) (labels_at unknowns_at : Name → Option ℕ) : Type 0 where
  pub of_labels : (y : Name) → labels_at y ≡ position (λ (x : Label). name_eq x.name y) (labels rs)
  pub of_unknowns : (y : Name) → unknowns_at y ≡ position (λ (x : Unknown). name_eq x.name y) (unresolved rs)
