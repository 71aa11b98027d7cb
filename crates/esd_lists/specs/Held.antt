-- The modules that were read, as they are kept.
use Rattle.std.specs.Prelude.{◌≡◌, ℕ, Bool, false, List, slice_get, Some, is_some}
use Rattle.std.specs.Option.{option_map_or}
use Rattle.linking_model.specs.Kept.{Read, kept_in}
use Rattle.esd_index.specs.Steps.{flag_at}
use Rattle.esd_lists.specs.declared.reading.Reading.{Reading}

-- the module as the definitions of linking speak of it
abbrev pub as_read : Reading → Read
as_read x = record { module_ = x.read; segment = x.segment }

-- the marks of each module say which of its items are kept
abbrev pub AreMarked : List Read → List Reading → Type 0
AreMarked rs xs = (k : ℕ) (x : Reading) → slice_get xs k ≡ Some x → (j : ℕ) → flag_at x.kept j ≡ is_some (kept_in rs k j)

-- item n of module k is marked
abbrev pub is_marked_in : List Reading → ℕ → ℕ → Bool
is_marked_in xs k n = option_map_or (λ x. flag_at x.kept n) (slice_get xs k) false
