use Rattle.std.proofs.Common.{refl}
use Rattle.std.specs.Prelude.{nat_eq}
use Rattle.std.specs.HashMap.{get}
use Rattle.member_checks.proofs.SymbolLists.{nothing_kept}
use Rattle.member_checks.proofs.symbols.Symbols.new.Goals as goal

pub invariant_of-result : goal.invariant_of-result
invariant_of-result c =
    rw (c.new.ensures.items, c.new-2.ensures.items, c.new-3.ensures.items)
    (nothing_kept (get nat_eq c.new-4.result) (λ segment. rw c.new-4.ensures.empty refl))
