use Rattle.std.proofs.Common.{◌≡◌, ℕ, ◌+◌, ◌<◌, ◌≤◌, false}
use Rattle.std.specs.HashMap.{get}
use Rattle.member_walk.specs.Fields.{clash_at, place_eq}
use Rattle.member_walk.proofs.fields.any_clashes.Given as goal

abbrev pub invariant-loop-address : goal.invariant-loop-address
invariant-loop-address l = (address : ℕ) → l.x.address ≤ address + 3 → address < l.address → clash_at (get place_eq l.extents) l.x address ≡ false
