use Rattle.std.proofs.Common.{arith}
use Rattle.pds_image.proofs.Capped.{entry_over}
use Rattle.pds_image.proofs.length.count_entry.Goals as goal

pub returns-then-saturating_add : goal.returns-then-saturating_add
returns-then-saturating_add c =
    entry_over c.args.total.now c.args.used.now c.args.n c.block_length.result c.add.result (omega (arith, c.saturating_add.ensures, c.if-saturating_add.true)) c.block_length.ensures c.add.ensures
