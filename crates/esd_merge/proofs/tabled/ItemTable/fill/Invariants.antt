use Rattle.std.proofs.Common.{◌≡◌, ◌++◌, drop}
use Rattle.std.specs.HashMap.{get}
use Rattle.le_bytes.specs.Names.{name_eq}
use Rattle.esd_index.specs.Contents.{now_of}
use Rattle.esd_merge.specs.Meant.{home_at}
use Rattle.esd_merge.specs.Tabled.{each_from, homes_of, target_at, targets_of}
use Rattle.esd_merge.proofs.tabled.ItemTable.fill.Given as goal

abbrev pub invariant-loop-number : goal.invariant-loop-number
invariant-loop-number l =
    (l.self.homes.items ++ each_from (home_at (now_of l.index) l.at.number l.at.segment l.at.items.now l.at.kept.now) l.number (drop l.number l.at.items.now)
    ≡ homes_of (now_of l.index) l.at.number l.at.segment l.at.items.now l.at.kept.now)
    × (l.self.targets.items ++ each_from (target_at (now_of l.index) (get name_eq l.meanings.labels) (get name_eq l.meanings.unknowns) l.at.number l.at.items.now) l.number (drop l.number l.at.items.now)
    ≡ targets_of (now_of l.index) (get name_eq l.meanings.labels) (get name_eq l.meanings.unknowns) l.at.number l.at.items.now)
