-- The order of the kinds of records.
use Rattle.std.specs.Prelude.{ℕ}
use Rattle.member_checks.specs.declared.stages.Stage.{Stage}
use Rattle.member_checks.specs.declared.stages.Stage.TheVariants.{Symbols, Scatter, Translation, Notes, Segments}

-- the place of a kind in the order
abbrev pub place_of : Stage → ℕ
place_of Symbols = 0
place_of Scatter = 1
place_of Translation = 2
place_of Notes = 3
place_of Segments = 4
