use Rattle.std.proofs.Common.{◌≡◌, ◌++◌, drop, map}
use Rattle.std.specs.HashMap.{get}
use Rattle.le_bytes.specs.Names.{name_eq}
use Rattle.esd_index.specs.Contents.{now_of}
use Rattle.esd_merge.specs.Tabled.{term_in}
use Rattle.esd_merge.proofs.tabled.ItemTable.terms.Given as goal

abbrev pub invariant-loop-t : goal.invariant-loop-t
invariant-loop-t l =
    l.list ++ map (term_in (now_of l.index) (get name_eq l.meanings.labels) (get name_eq l.meanings.unknowns) l.self.targets.items) (drop l.t-index l.terms)
    ≡ map (term_in (now_of l.index) (get name_eq l.meanings.labels) (get name_eq l.meanings.unknowns) l.self.targets.items) l.terms
