use Rattle.std.proofs.Common.{sym}
use Rattle.pds_lib.specs.Stored.{row_name}
use Rattle.pds_lib.proofs.Stowing.{ascends_put}
use Rattle.pds_lib.proofs.stow.put_row.Goals as goal

pub returns-clause-ascending : goal.returns-clause-ascending
returns-clause-ascending c =
    rw (c.in_ok-insert.ensures.items, c.place_of-place.ensures.value, c.as_slice-2.ensures.value)
    (ascends_put row_name c.args.rows.now.items c.args.row c.requires (rw (← c.as_slice.ensures.value) (sym c.if-has_row.ensures)))
