-- A state that goes through the items of modules.
use Rattle.std.specs.Prelude.{ℕ, ◌+◌, List, [], ◌∷◌, fold}
use Rattle.linking_model.specs.Kept.{Sight, sights_in}
use Rattle.esd_lists.specs.declared.reading.Reading.{Reading}

-- the state a after the items of these modules, the first of which is module k
abbrev pub gathered_from : {A : Type 0} → (A → Sight → A) → A → ℕ → List Reading → A
gathered_from f a k [] = a
gathered_from f a k (r ∷ rs) = gathered_from f (fold f a (sights_in k r.segment 0 r.read.items)) (k + 1) rs
