use Rattle.std.proofs.Common.{◌≡◌, ◌+◌, [], length}
use Rattle.std.specs.HashMap.{get}
use Rattle.std.specs.Vec.Iter.{into_iter_items}
use Rattle.le_bytes.specs.Names.{name_eq}
use Rattle.esd_index.specs.Contents.{now_of}
use Rattle.esd_merge.specs.Whole.{constants_from, starts_from, texts_from}
use Rattle.esd_merge.proofs.program.bring.Given as goal

abbrev pub invariant-loop-reading : goal.invariant-loop-reading
invariant-loop-reading l =
    (constants_from (now_of l.index) (get name_eq l.meanings.labels) (get name_eq l.meanings.unknowns) l.brought.constants l.number (into_iter_items l.reading-iterator)
    ≡ constants_from (now_of l.index) (get name_eq l.meanings.labels) (get name_eq l.meanings.unknowns) [] 0 (into_iter_items l.initial.reading-iterator))
    × (texts_from (now_of l.index) l.brought.texts l.number (into_iter_items l.reading-iterator) ≡ texts_from (now_of l.index) [] 0 (into_iter_items l.initial.reading-iterator))
    × (starts_from (now_of l.index) l.brought.starts l.number (into_iter_items l.reading-iterator) ≡ starts_from (now_of l.index) [] 0 (into_iter_items l.initial.reading-iterator))
    × (l.number + length (into_iter_items l.reading-iterator) ≡ length (into_iter_items l.initial.reading-iterator))
