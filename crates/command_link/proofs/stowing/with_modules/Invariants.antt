use Rattle.std.proofs.Common.{◌≡◌, All, length}
use Rattle.std.specs.Vec.Iter.{into_iter_items, into_iter_len}
use Rattle.pds_directory.specs.declared.kinds.LibKind.TheVariants.{Modules}
use Rattle.link_core.specs.Modules.{IsStowable}
use Rattle.command_link.specs.Link.{with_modules}
use Rattle.command_link.proofs.stowing.with_modules.Given as goal

abbrev pub invariant-loop-module : goal.invariant-loop-module
invariant-loop-module l =
    (with_modules l.library (into_iter_items l.module-iterator) ≡ with_modules l.initial.library (into_iter_items l.initial.module-iterator))
    × (l.library.kind ≡ Modules)
    × All IsStowable (into_iter_items l.module-iterator)
    × (into_iter_len l.module-iterator ≡ length (into_iter_items l.module-iterator))
