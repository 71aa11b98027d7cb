use Rattle.std.proofs.Common.{◌≡◌, List, Result, Ok, refl, length, ap, arith}
use Rattle.std.specs.Prelude.{is_ok}
use Rattle.pds_lib.specs.declared.member.StowFault.{StowFault}
use Rattle.pds_lib.specs.declared.table.Row.{Row}
use Rattle.pds_lib.specs.Stored.{row_name}
use Rattle.pds_lib.specs.Stow.{stays}
use Rattle.pds_lib.specs.Rows.{rows_stowed, total_after}
use Rattle.pds_lib.proofs.StowLaws.{left_ascends, refused_by, stowed_by, total_by}
use Rattle.pds_lib.proofs.stow.stow_rows.Goals as goal

pub put_rows-requires : goal.put_rows-requires
put_rows-requires c = rw c.in_ok-left.ensures.kept (left_ascends row_name (λ (r : Row). stays c.args.m.now c.args.replace r.entry) c.args.rows.now c.requires.ascending)

pub returns-in-Err-clause-gives : goal.returns-in-Err-clause-gives
returns-in-Err-clause-gives c =
    refused_by c.in-Err.fault (length c.args.given.now) (length c.args.given.now) c.args.rows.now c.in_ok-left.left.items c.put_rows.new.rows.items c.in_ok-entries.entries.items c.args.m.now c.args.replace
    (total_after c.args.places.now c.args.given.now c.args.rows.now c.args.m.now c.args.replace)
    c.in_ok-left.ensures.kept c.in_ok-entries.ensures.entries refl (rw (← c.as_slice-2.ensures.value) c.in-Err.ensures.gives)

pub returns-then-total-clause-gives : goal.returns-then-total-clause-gives
returns-then-total-clause-gives c =
    let put : rows_stowed (length c.args.given.now) c.args.rows.now c.args.m.now c.args.replace ≡ Ok c.put_rows.new.rows.items =
    stowed_by (length c.args.given.now) (length c.args.given.now) c.args.rows.now c.in_ok-left.left.items c.in_ok-entries.entries.items c.args.m.now c.args.replace (Ok c.put_rows.new.rows.items)
    c.in_ok-left.ensures.kept c.in_ok-entries.ensures.entries refl (rw (← c.as_slice-2.ensures.value) c.in-Ok.ensures.gives) in (
      ap (λ (r : Result (List Row) StowFault). is_ok r) put,
      λ image. total_by image c.args.places.now c.args.given.now c.args.rows.now c.in_ok-left.left.items c.as_slice.result.now c.args.m.now c.args.replace c.count_rows-before.result c.len-added.result
          c.as_slice.ensures.value c.in_ok-left.ensures.kept c.len-added.ensures (c.count_rows-before.ensures.count image),
      c.if-total.true,
    )

pub returns-clause-gives : goal.returns-clause-gives
returns-clause-gives c = (
  stowed_by (length c.args.given.now) (length c.args.given.now) c.args.rows.now c.in_ok-left.left.items c.in_ok-entries.entries.items c.args.m.now c.args.replace (Ok c.put_rows.new.rows.items)
      c.in_ok-left.ensures.kept c.in_ok-entries.ensures.entries refl (rw (← c.as_slice-2.ensures.value) c.in-Ok.ensures.gives),
  λ image. omega (
    arith,
    total_by image c.args.places.now c.args.given.now c.args.rows.now c.in_ok-left.left.items c.as_slice.result.now c.args.m.now c.args.replace c.count_rows-before.result c.len-added.result
        c.as_slice.ensures.value c.in_ok-left.ensures.kept c.len-added.ensures (c.count_rows-before.ensures.count image),
  ),
)
