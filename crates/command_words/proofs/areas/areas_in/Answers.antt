use Rattle.std.proofs.Common.{rules, arith, ◌≡◌, List, subst, sym}
use Rattle.std.proofs.lemmas.Grind.{common_steps}
use Rattle.command_words.specs.Lists.{areas_in, AreAreas}
use Rattle.command_words.specs.declared.areas.AreaRange.{AreaRange}
use Rattle.command_words.proofs.AreaLemmas.{areas_in_order}
use Rattle.command_words.proofs.areas.areas_in.Goals as goal

pub returns-clause-in_order : goal.returns-clause-in_order
returns-clause-in_order c =
    let same : c.loop-rest.areas.items ≡ areas_in c.args.text.now = first_of (search rules, grind (arith, common_steps)) in
    subst (λ (areas : List AreaRange). AreAreas 0 areas) (sym same) (areas_in_order c.args.text.now)
