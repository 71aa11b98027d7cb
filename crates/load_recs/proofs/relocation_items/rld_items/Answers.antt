use Rattle.std.proofs.Common.{arith}
use Rattle.load_recs.proofs.ItemsSpelled.{whole_spelled}
use Rattle.load_recs.proofs.relocation_items.rld_items.Goals as goal

pub returns-clause-spelled : goal.returns-clause-spelled
returns-clause-spelled c = λ whole.
    rw (c.walk.ensures.kept, c.walk.ensures.rest) (whole_spelled c.args.b.now (λ i. omega (arith, c.type_inv.b i)) whole)
