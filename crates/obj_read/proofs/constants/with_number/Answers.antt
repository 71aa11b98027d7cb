use Rattle.std.proofs.Common.{sym, ◌∙◌}
use Rattle.obj_read.specs.Covered.{place}
use Rattle.obj_read.proofs.Maps.{kept_in, put_in}
use Rattle.obj_read.proofs.constants.with_number.Goals as goal

pub returns-then-contains_key : goal.returns-then-contains_key
returns-then-contains_key c = λ s b.
    kept_in c.args.numbers c.args.place (place s b) c.args.number (sym c.contains_key.ensures ∙ c.if-contains_key.true)

pub returns : goal.returns
returns c = λ s b.
    put_in c.args.numbers c.args.place (place s b) c.args.number _ (sym c.contains_key.ensures ∙ c.if-contains_key.false) (c.in_ok-insert.ensures.updates.0 (place s b))
