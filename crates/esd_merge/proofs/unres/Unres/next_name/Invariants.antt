use Rattle.std.proofs.Common.{◌≡◌, length}
use Rattle.esd_merge.specs.Rest.{names_left}
use Rattle.esd_merge.proofs.unres.Unres.next_name.Given as goal

abbrev pub invariant-loop-self : goal.invariant-loop-self
invariant-loop-self l = names_left l.self ≡ names_left l.fn.self

abbrev pub decreases-loop-self : goal.decreases-loop-self
decreases-loop-self l = length l.self.rest.now
