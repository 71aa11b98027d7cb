use Rattle.std.proofs.Common.{◌≡◌, drop}
use Rattle.std.specs.Prelude.{IsTrue}
use Rattle.pds_directory.specs.Order.{ascends}
use Rattle.pds_lib.specs.Stored.{row_name}
use Rattle.pds_lib.specs.Rows.{row_for}
use Rattle.pds_lib.specs.Stow.{put_all}
use Rattle.pds_lib.proofs.stow.put_rows.Given as goal

abbrev pub invariant-loop-e : goal.invariant-loop-e
invariant-loop-e l =
    IsTrue (ascends row_name l.rows.items)
    × (put_all row_name (row_for l.store) l.rows.items (drop l.e-index l.entries) ≡ put_all row_name (row_for l.store) l.fn.rows.items l.entries)
