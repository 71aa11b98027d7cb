use Rattle.std.proofs.Common.{◌≡◌, ◌-◌, ◌+◌, ◌≤◌, length}
use Rattle.pds_directory.specs.Directory.{entries_from, listed_name}
use Rattle.std.specs.Prelude.{IsTrue}
use Rattle.pds_directory.specs.Order.{ascends}
use Rattle.pds_directory.proofs.entries.read_entries.Given as goal

abbrev pub invariant-loop-tried : goal.invariant-loop-tried
invariant-loop-tried l =
    (length l.rest ≤ l.end)
    × IsTrue (ascends listed_name l.entries.items)
    × (entries_from (l.tries - l.tried) l.h l.block (l.tried + 1) l.entries.items l.end l.rest ≡ entries_from l.tries l.h l.block 1 l.fn.entries.items l.end l.used)
