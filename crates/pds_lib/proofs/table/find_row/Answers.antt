use Rattle.std.proofs.Common.{sym}
use Rattle.pds_lib.specs.Stored.{row_name}
use Rattle.pds_lib.proofs.Halving.{row_found, row_wanting}
use Rattle.pds_lib.proofs.table.find_row.Goals as goal

pub returns-then-is_named_at-clause-found : goal.returns-then-is_named_at-clause-found
returns-then-is_named_at-clause-found c =
    row_found row_name c.args.rows.now c.args.n.now c.place_of-k.result c.requires c.place_of-k.ensures.value (sym c.if-is_named_at.ensures)

pub returns-else-is_named_at-clause-none : goal.returns-else-is_named_at-clause-none
returns-else-is_named_at-clause-none c =
    row_wanting row_name c.args.rows.now c.args.n.now c.place_of-k.result c.requires c.place_of-k.ensures.value (sym c.if-is_named_at.ensures)
