use Rattle.std.proofs.Common.{◌≡◌, [], None, drop}
use Rattle.std.specs.HashMap.{get}
use Rattle.le_bytes.specs.declared.name.Name.{Name}
use Rattle.le_bytes.specs.Names.{name_eq}
use Rattle.esd_index.specs.Contents.{now_of}
use Rattle.esd_lists.specs.Gathered.{no_area, area_in, extent_in, label_step, control_listed, area_step, extent_step}
use Rattle.esd_lists.specs.Walked.{gathered_from}
use Rattle.esd_lists.proofs.gathering.gather.Given as goal

abbrev pub invariant-loop-number : goal.invariant-loop-number
invariant-loop-number l =
    (gathered_from (control_listed (now_of l.index).controls) l.gathered.controls.items l.number (drop l.number l.reads) ≡ gathered_from (control_listed (now_of l.index).controls) [] 0 l.reads)
    × ((y : Name) → gathered_from (area_step y) (area_in (get name_eq l.gathered.areas y)) l.number (drop l.number l.reads) ≡ gathered_from (area_step y) no_area 0 l.reads)
    × ((y : Name) → gathered_from (label_step (now_of l.index) l.reads y) (get name_eq l.gathered.labels y) l.number (drop l.number l.reads) ≡ gathered_from (label_step (now_of l.index) l.reads y) None 0 l.reads)
    × ((y : Name) → gathered_from (extent_step y) (extent_in (get name_eq l.gathered.extents y)) l.number (drop l.number l.reads) ≡ gathered_from (extent_step y) (extent_in None) 0 l.reads)
