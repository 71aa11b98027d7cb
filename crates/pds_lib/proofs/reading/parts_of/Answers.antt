use Rattle.std.proofs.Common.{List, ◌∙◌, ap, map, arith}
use Rattle.pds_directory.specs.declared.entry.Span.{Span}
use Rattle.pds_directory.specs.Directory.{rules_of}
use Rattle.pds_directory.specs.Places.{ends_of}
use Rattle.pds_lib.specs.Rows.{row_of}
use Rattle.pds_lib.proofs.Members.{library_is, rows_there}
use Rattle.pds_lib.proofs.ReadEntries.{are_bytes}
use Rattle.pds_lib.proofs.ReadSound.{read_sound}
use Rattle.pds_lib.proofs.reading.parts_of.Goals as goal

pub returns-clause-gives : goal.returns-clause-gives
returns-clause-gives c =
    library_is c.args.image.now c.in_ok-d.d c.head-h.result c.in_ok-places.places.items c.in_ok-table.table
    c.in_ok-d.ensures.gives c.head-h.ensures c.in_ok-places.ensures.gives
    (c.in-Ok.ensures ∙ ap (rules_of c.in_ok-d.d) (c.as_slice-2.ensures.value ∙ c.in_ok-ends.ensures.ends ∙ ap ends_of c.as_slice.ensures.value))
    (c.in_ok-table.ensures ∙ c.in_ok-rows.ensures.rows ∙ ap (λ (ps : List Span). map (row_of ps c.in_ok-d.d.entries) c.in_ok-d.d.entries) c.as_slice-3.ensures.value)

pub returns-clause-there : goal.returns-clause-there
returns-clause-there c =
    rows_there c.in_ok-table.table c.as_slice-3.result.now c.in_ok-d.d.entries (c.in_ok-table.ensures ∙ c.in_ok-rows.ensures.rows)

pub returns-clause-sound : goal.returns-clause-sound
returns-clause-sound c =
    read_sound c.args.image.now _ (are_bytes c.args.image.now (λ i. let small = c.type_inv.image i in omega arith)) (returns-clause-gives c)
