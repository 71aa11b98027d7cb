use Rattle.std.proofs.Common.{sym, ap, ◌∙◌}
use Rattle.std.proofs.lemmas.List.{drop_more, drop_all}
use Rattle.pds_lib.specs.Stored.{row_name}
use Rattle.pds_lib.specs.Rows.{row_for}
use Rattle.pds_lib.specs.Stow.{put_all}
use Rattle.pds_lib.proofs.Stowing.{row_put, row_refused, rows_put}
use Rattle.pds_lib.proofs.stow.put_rows.Goals as goal

pub returns-in-Err-clause-gives : goal.returns-in-Err-clause-gives
returns-in-Err-clause-gives c =
    row_refused c.in-Err.fault c.args.store c.loop-e.rows.items _ _ _ _ _ c.in-Err.ensures.gives
    (ap (put_all row_name (row_for c.args.store) c.loop-e.rows.items) (sym (drop_more c.args.entries.now c.loop-e.e-index _ c.loop-e-test.true)) ∙ c.loop-e.invariant.1)

pub loop-e-preserved : goal.loop-e-preserved
loop-e-preserved c = (
  c.put_row.ensures.ascending,
  row_put c.args.store c.loop-e.rows.items _ _ _ _ c.in-Ok.ensures.gives
      (ap (put_all row_name (row_for c.args.store) c.loop-e.rows.items) (sym (drop_more c.args.entries.now c.loop-e.e-index _ c.loop-e-test.true)) ∙ c.loop-e.invariant.1),
)

pub returns-clause-gives : goal.returns-clause-gives
returns-clause-gives c =
    rows_put c.args.store c.loop-e.rows.items _
    (ap (put_all row_name (row_for c.args.store) c.loop-e.rows.items) (sym (drop_all c.loop-e.e-index c.args.entries.now c.loop-e-test.false)) ∙ c.loop-e.invariant.1)
