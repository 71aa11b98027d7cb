use Rattle.std.proofs.Common.{◌≡◌, drop, fold}
use Rattle.std.specs.HashMap.{get}
use Rattle.le_bytes.specs.declared.name.Name.{Name}
use Rattle.le_bytes.specs.Names.{name_eq}
use Rattle.linking_model.specs.Kept.{sights_in}
use Rattle.esd_index.specs.Contents.{now_of}
use Rattle.esd_lists.specs.Gathered.{area_in, extent_in, label_step, control_listed, area_step, extent_step}
use Rattle.esd_lists.proofs.gathering.Gathered.note_items.Given as goal

abbrev pub invariant-loop-number : goal.invariant-loop-number
invariant-loop-number l =
    (fold (control_listed (now_of l.index).controls) l.self.controls.items (sights_in l.of_module l.segment l.number (drop l.number l.items)) ≡ fold (control_listed (now_of l.index).controls) l.fn.self.controls.items (sights_in l.of_module l.segment 0 l.items))
    × ((y : Name) → fold (area_step y) (area_in (get name_eq l.self.areas y)) (sights_in l.of_module l.segment l.number (drop l.number l.items)) ≡ fold (area_step y) (area_in (get name_eq l.fn.self.areas y)) (sights_in l.of_module l.segment 0 l.items))
    × ((y : Name) → fold (label_step (now_of l.index) l.reads y) (get name_eq l.self.labels y) (sights_in l.of_module l.segment l.number (drop l.number l.items)) ≡ fold (label_step (now_of l.index) l.reads y) (get name_eq l.fn.self.labels y) (sights_in l.of_module l.segment 0 l.items))
    × ((y : Name) → fold (extent_step y) (extent_in (get name_eq l.self.extents y)) (sights_in l.of_module l.segment l.number (drop l.number l.items)) ≡ fold (extent_step y) (extent_in (get name_eq l.fn.self.extents y)) (sights_in l.of_module l.segment 0 l.items))
