use Rattle.std.proofs.Common.{◌≡◌, ◌-◌, ◌+◌, []}
use Rattle.std.specs.Prelude.{IsTrue}
use Rattle.pds_directory.specs.Order.{ascends}
use Rattle.pds_directory.specs.Directory.{blocks_from, listed_name}
use Rattle.pds_directory.proofs.directory.read_blocks.Given as goal

abbrev pub invariant-loop-done : goal.invariant-loop-done
invariant-loop-done l =
    IsTrue (ascends listed_name l.entries.items)
    × (blocks_from (l.h.blocks - l.done) l.h l.image (l.done + 1) l.entries.items ≡ blocks_from l.h.blocks l.h l.image 1 [])
