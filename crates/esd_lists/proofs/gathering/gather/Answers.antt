use Rattle.std.specs.HashMap.{get}
use Rattle.le_bytes.specs.Names.{name_eq}
use Rattle.esd_index.specs.Contents.{now_of}
use Rattle.esd_lists.specs.Gathered.{area_in, extent_in, label_step, control_listed, area_step, extent_step}
use Rattle.esd_lists.proofs.Walking.{next_walked}
use Rattle.esd_lists.proofs.gathering.gather.Goals as goal

pub loop-number-preserved : goal.loop-number-preserved
loop-number-preserved c = (
  next_walked (control_listed (now_of c.args.index.now).controls) c.loop-number.number c.args.reads.now c.index-reads-number.result c.as_slice-items.result.now c.loop-number.gathered.controls.items _ _
      c.loop-number-test.true c.index-reads-number.is c.as_slice-items.ensures c.in_ok-note_items.ensures.controls c.loop-number.invariant.0,
  λ y. next_walked (area_step y) c.loop-number.number c.args.reads.now c.index-reads-number.result c.as_slice-items.result.now (area_in (get name_eq c.loop-number.gathered.areas y)) _ _
      c.loop-number-test.true c.index-reads-number.is c.as_slice-items.ensures (c.in_ok-note_items.ensures.areas y) (c.loop-number.invariant.1 y),
  λ y. next_walked (label_step (now_of c.args.index.now) c.args.reads.now y) c.loop-number.number c.args.reads.now c.index-reads-number.result c.as_slice-items.result.now (get name_eq c.loop-number.gathered.labels y) _ _
      c.loop-number-test.true c.index-reads-number.is c.as_slice-items.ensures (c.in_ok-note_items.ensures.labels y) (c.loop-number.invariant.2 y),
  λ y. next_walked (extent_step y) c.loop-number.number c.args.reads.now c.index-reads-number.result c.as_slice-items.result.now (extent_in (get name_eq c.loop-number.gathered.extents y)) _ _
      c.loop-number-test.true c.index-reads-number.is c.as_slice-items.ensures (c.in_ok-note_items.ensures.extents y) (c.loop-number.invariant.3 y),
)
