use Rattle.std.proofs.Common.{◌≤◌, ◌∙◌, ap, map, length}
use Rattle.std.proofs.lemmas.List.{take_all}
use Rattle.pds_lib.specs.Rows.{row_of}
use Rattle.pds_lib.proofs.Members.{rows_ascend_at}
use Rattle.pds_lib.proofs.reading.rows_of.Goals as goal

pub returns-clause-ascending : goal.returns-clause-ascending
returns-clause-ascending c =
    let all : length c.args.d.now.entries ≤ c.loop-x.x-index = rw (← c.entries-entries.ensures.entries) c.loop-x-test.false in
    rows_ascend_at c.loop-x.rows.items c.args.places.now c.args.d.now.entries
    (c.loop-x.invariant ∙ ap (map (row_of c.args.places.now c.args.d.now.entries)) (take_all c.loop-x.x-index c.args.d.now.entries all))
    c.entries-entries.ensures.ascending
