-- A piece of a line, put into a buffer.
use Rattle.std.specs.Prelude.{◌≡◌, ℕ, ◌+◌, ◌≤◌, List, ◌++◌, length, take, drop}

-- the text stands from place `at` on, up to `end`; what stands before it and after it is as before
pub record Puts (old : List ℕ) (at : ℕ) (text new : List ℕ) (end : ℕ) : Type 0 where
  pub text_is : take end new ≡ take at old ++ text
  pub end_is : end ≡ at + length text
  pub rest_is : (k : ℕ) → end ≤ k → drop k new ≡ drop k old
