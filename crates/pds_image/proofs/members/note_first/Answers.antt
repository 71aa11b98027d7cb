use Rattle.std.proofs.Common.{sym, ◌∙◌}
use Rattle.std.specs.HashMap.{get}
use Rattle.le_bytes.specs.Names.{name_eq}
use Rattle.pds_image.proofs.Walking.{first_put}
use Rattle.pds_image.proofs.members.note_first.Goals as goal

pub returns-in_ok-insert : goal.returns-in_ok-insert
returns-in_ok-insert c =
    first_put (get name_eq c.args.firsts.now) (get name_eq c.insert.new.self) c.args.e.now c.args.k c.in_ok-insert.ensures.updates.0
    (sym c.contains_key.ensures ∙ c.if-not-contains_key.true) c.if-not-e.true
