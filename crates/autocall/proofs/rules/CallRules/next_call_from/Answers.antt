use Rattle.std.proofs.Common.{subst}
use Rattle.autocall.specs.Searched.{Searches}
use Rattle.autocall.proofs.Searching.{next_found}
use Rattle.autocall.proofs.rules.CallRules.next_call_from.Goals as goal

pub returns-clause-next : goal.returns-clause-next
returns-clause-next c =
    next_found c.args.self.now c.args.m.now c.args.sets.now c.args.from.now c.search-end.result.0 c.search-end.result.1
    (subst (λ n. Searches c.args.self.now c.args.m.now c.args.sets.now n c.search-end.result.0 c.search-end.result.1) c.from.view_is c.search-end.ensures)
