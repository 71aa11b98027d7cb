use Rattle.std.proofs.Common.{sym, ◌∙◌}
use Rattle.mod_read.specs.Placed.{place}
use Rattle.mod_read.proofs.Places.{put_in}
use Rattle.mod_read.proofs.constants.with_number.Goals as goal

pub returns : goal.returns
returns c = λ s a.
    put_in c.args.numbers c.args.place (place s a) c.args.number _ (sym c.contains_key.ensures ∙ c.if-contains_key.false) (c.in_ok-insert.ensures.updates.0 (place s a))
