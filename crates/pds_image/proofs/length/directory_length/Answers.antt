use Rattle.pds_image.proofs.Capped.{directory_counted}
use Rattle.pds_image.proofs.length.directory_length.Goals as goal

pub returns : goal.returns
returns c =
    directory_counted c.args.library.now c.entries-e-items.result.now c.loop-e.e-index c.loop-e.total c.loop-e.used c.count_entry-2.new.total c.count_entry-2.new.used c.block_length.result c.add.result
    c.loop-e-test.false c.entries-e-items.ensures c.loop-e.invariant c.count_entry-2.ensures c.block_length.ensures c.add.ensures
