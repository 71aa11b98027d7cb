-- What one read of a whole set says.
use Rattle.std.specs.Prelude.{◌≡◌, ℕ, ◌≤◌, ◌↔◌, List, length, take, drop, Result, Ok, Err, IsSomeAnd}
use Rattle.le_io.specs.declared.whole.ReadStop.{ReadStop}
use Rattle.le_io.specs.Counts.{Files}
use Rattle.le_io.specs.Whole.{StopTold}

-- the first n bytes of the buffer are those of the file from `at`, and there are none exactly at the end
pub record IsNext (file : List ℕ) (at n : ℕ) (into : List ℕ) : Type 0 where
  pub bytes : take n into ≡ take n (drop at file)
  pub at_end : (n ≡ 0) ↔ (length file ≤ at)

abbrev pub PieceTold : Files → List ℕ → ℕ → List ℕ → Result ℕ ReadStop → Type 0
PieceTold files path at into (Ok n) = IsSomeAnd (files path) (λ file. IsNext file at n into)
PieceTold files path at into (Err why) = StopTold files path why
