-- The search for the next call, place by place in the order of first appearance.
use Rattle.std.specs.Prelude.{◌≡◌, ℕ, ◌<◌, ◌≤◌, max, List, length, Option, None, option_and_then}
use Rattle.le_bytes.specs.declared.name.Name.{Name}
use Rattle.pds_lib.specs.declared.set.Set.{Set}
use Rattle.linking_model.specs.Kept.{Read, appearance}
use Rattle.esd_merge.specs.Calls.{callable_at}
use Rattle.autocall.specs.Rules.{Rules}
use Rattle.autocall.specs.Calls.{call_of}

-- the call of the name at a place, where there is one
abbrev pub call_at : Rules → List Read → List Set → ℕ → Option (Name × ℕ)
call_at r rs sets k = option_and_then (call_of r sets) (callable_at rs k)

-- no name at a place before this one has a call
abbrev pub NoCallBefore : Rules → List Read → List Set → ℕ → Type 0
NoCallBefore r rs sets k = (j : ℕ) → j < k → call_at r rs sets j ≡ None

-- a search that began at one place and ended at another: no name that was passed has a call, the answer is the call at
-- the place where it ended, and where that is none all places were passed
pub record Searches (r : Rules) (rs : List Read) (sets : List Set) (start stop : ℕ) (answer : Option (Name × ℕ)) : Type 0 where
  pub onward : start ≤ stop
  pub passed : (j : ℕ) → start ≤ j → j < stop → call_at r rs sets j ≡ None
  pub answered : answer ≡ call_at r rs sets stop
  pub ended : answer ≡ None → stop ≡ max start (length (appearance rs))
