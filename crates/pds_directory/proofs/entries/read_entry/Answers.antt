use Rattle.std.proofs.Common.{sym}
use Rattle.pds_directory.proofs.Blocks.{good_has_size, entry_is_above}
use Rattle.pds_directory.proofs.entries.read_entry.Goals as goal

pub listed_of-requires-clause-size : goal.listed_of-requires-clause-size
listed_of-requires-clause-size c = good_has_size c.args.h.now c.args.entries.now c.args.rest.now (sym c.if-not-is_good.ensures)

pub returns-clause-above : goal.returns-clause-above
returns-clause-above c = rw c.listed_of.ensures (entry_is_above c.args.h.now c.args.block c.args.number c.args.entries.now c.args.end c.args.rest.now (sym c.if-not-is_good.ensures))
