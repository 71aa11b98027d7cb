use Rattle.std.proofs.Common.{◌≡◌, ◌++◌, drop}
use Rattle.load_recs.specs.Items.{notes_of}
use Rattle.member_checks.proofs.notes.pushed.Given as goal

abbrev pub invariant-loop-k : goal.invariant-loop-k
invariant-loop-k l = l.notes ++ drop l.k (notes_of l.items) ≡ l.fn.notes ++ notes_of l.items
