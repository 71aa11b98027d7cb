use Rattle.pds_lib.proofs.Stowing.{name_there, name_wanting}
use Rattle.pds_lib.proofs.stow.has_row.Goals as goal

pub returns-in-None : goal.returns-in-None
returns-in-None c = name_wanting c.args.rows.now c.args.n.now c.in-None.ensures.none

pub returns-in-Some : goal.returns-in-Some
returns-in-Some c = name_there c.args.rows.now c.args.n.now _ c.in-Some.ensures.found
