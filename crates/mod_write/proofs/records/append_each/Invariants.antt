use Rattle.std.proofs.Common.{◌≡◌, ◌++◌}
use Rattle.member_model.specs.Cuts.{together}
use Rattle.mod_write.proofs.records.append_each.Given as goal

abbrev pub invariant-loop-segment : goal.invariant-loop-segment
invariant-loop-segment l = l.records.items ≡ l.fn.records.items ++ together l.yielded
