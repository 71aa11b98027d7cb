use Rattle.std.proofs.Common.{◌≡◌, length, None}
use Rattle.load_recs.specs.Relocations.{left_after}
use Rattle.load_recs.proofs.relocation_items.is_whole.Given as goal

abbrev pub invariant-loop : goal.invariant-loop
invariant-loop l = left_after l.items.kept l.items.rest.now ≡ left_after None l.b

abbrev pub decreases-loop : goal.decreases-loop
decreases-loop l = length l.items.rest.now
