use Rattle.std.proofs.Common.{◌∙◌, ap}
use Rattle.pds_directory.specs.Places.{width}
use Rattle.pds_image.proofs.Capped.{alias_counted, member_counted}
use Rattle.pds_image.proofs.length.body_length.Goals as goal

pub returns-then-e : goal.returns-then-e
returns-then-e c = alias_counted c.args.library.now c.args.e.now c.if-e.true

pub returns-else-e : goal.returns-else-e
returns-else-e c =
    member_counted c.args.library.now c.args.e.now c.records_length.result c.width.result c.add.result c.if-e.false
    (c.width.ensures.value ∙ ap width c.version-version.ensures)
    (rw (c.version-version.ensures, c.records.ensures) at c.records_length.ensures) c.add.ensures
