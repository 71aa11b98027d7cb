use Rattle.std.proofs.Common.{◌≡◌, drop, fold}
use Rattle.std.specs.HashMap.{get}
use Rattle.le_bytes.specs.Names.{name_eq}
use Rattle.esd_index.specs.Contents.{now_of}
use Rattle.esd_lists.specs.Listed.{pushed}
use Rattle.esd_merge.specs.Tabled.{constant_in}
use Rattle.esd_merge.proofs.tabled.ItemTable.add_constants.Given as goal

abbrev pub invariant-loop-x : goal.invariant-loop-x
invariant-loop-x l =
    fold (λ xs x. pushed xs (constant_in (now_of l.index) (get name_eq l.meanings.labels) (get name_eq l.meanings.unknowns) l.self.homes.items l.self.targets.items x)) l.list (drop l.x-index l.constants)
    ≡ fold (λ xs x. pushed xs (constant_in (now_of l.index) (get name_eq l.meanings.labels) (get name_eq l.meanings.unknowns) l.self.homes.items l.self.targets.items x)) l.fn.list l.constants
