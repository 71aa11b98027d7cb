use Rattle.std.proofs.Common.{subst, arith}
use Rattle.load_recs.specs.Gives.{Gives}
use Rattle.load_recs.proofs.Plain.{spelled_read}
use Rattle.load_recs.proofs.Spelled.{answer_spelled}
use Rattle.load_recs.proofs.reading.read_rec.Goals as goal

pub returns-clause-only : goal.returns-clause-only
returns-clause-only c = λ r spells. subst (Gives c.read_after.result) (spelled_read c.args.after c.args.b.now r spells) c.read_after.ensures

pub returns-clause-found : goal.returns-clause-found
returns-clause-found c = answer_spelled c.args.after c.args.b.now c.read_after.result (λ i. omega (arith, c.type_inv.b i)) c.read_after.ensures
