use Rattle.std.proofs.Common.{◌≡◌, ℕ, ◌<◌, ◌≤◌, None}
use Rattle.autocall.specs.Searched.{call_at}
use Rattle.autocall.proofs.rules.CallRules.search.Given as goal

abbrev pub invariant-loop-place : goal.invariant-loop-place
invariant-loop-place l = (j : ℕ) → l.start ≤ j → j < l.place → call_at l.self l.m l.sets j ≡ None
