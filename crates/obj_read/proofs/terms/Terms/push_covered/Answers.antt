use Rattle.std.proofs.Common.{sym, ◌∙◌, ap}
use Rattle.std.specs.List.{find}
use Rattle.obj_read.specs.Faults.{covers}
use Rattle.obj_read.proofs.Covered.{covered_more}
use Rattle.obj_read.proofs.terms.Terms.push_covered.Goals as goal

pub invariant_of-self-in_ok-with_field-2 : goal.invariant_of-self-in_ok-with_field-2
invariant_of-self-in_ok-with_field-2 c = λ s b.
    covered_more c.self.inside.terms.items c.args.term c.in-Some.covered c.in_ok-with_field.field-0 c.in_ok-with_field.ensures
    c.self.inside.covered (sym c.take-covered.ensures.value ∙ c.in-Some.is) c.self.invariant s b
    ∙ ap (λ ts. find (covers s b) ts) (sym c.in_ok-push.ensures.ok)
