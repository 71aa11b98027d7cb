use Rattle.std.proofs.Common.{◌≡◌, ◌==◌, not, length, drop}
use Rattle.std.specs.List.{list_any}
use Rattle.link_core.specs.declared.linked.Linked.{Linked}
use Rattle.command_link.proofs.listing.has_unresolved.Given as goal

abbrev pub invariant-loop-module : goal.invariant-loop-module
invariant-loop-module l =
    list_any (λ (x : Linked). not (length x.unresolved == 0)) (drop l.module-index l.modules)
    ≡ list_any (λ (x : Linked). not (length x.unresolved == 0)) l.modules
