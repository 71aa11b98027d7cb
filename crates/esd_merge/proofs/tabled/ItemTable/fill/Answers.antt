use Rattle.std.specs.HashMap.{get}
use Rattle.le_bytes.specs.Names.{name_eq}
use Rattle.esd_index.specs.Contents.{now_of}
use Rattle.esd_merge.specs.Meant.{home_at}
use Rattle.esd_merge.specs.Tabled.{target_at}
use Rattle.esd_merge.proofs.ItemTables.{each_next}
use Rattle.esd_merge.proofs.tabled.ItemTable.fill.Goals as goal

pub loop-number-preserved : goal.loop-number-preserved
loop-number-preserved c = (
  each_next (home_at (now_of c.args.index.now) c.args.at.now.number c.args.at.now.segment c.args.at.now.items.now c.args.at.now.kept.now) c.loop-number.number c.args.at.now.items.now
      c.loop-number.self.homes.items c.add.new.self.homes.items _ c.loop-number-test.true c.in_ok-add.ensures.homes c.loop-number.invariant.0,
  each_next (target_at (now_of c.args.index.now) (get name_eq c.args.meanings.now.labels) (get name_eq c.args.meanings.now.unknowns) c.args.at.now.number c.args.at.now.items.now) c.loop-number.number c.args.at.now.items.now
      c.loop-number.self.targets.items c.add.new.self.targets.items _ c.loop-number-test.true c.in_ok-add.ensures.targets c.loop-number.invariant.1,
)
