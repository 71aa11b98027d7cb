use Rattle.std.proofs.Common.{drop}
use Rattle.relocate.specs.Ready.{laid}
use Rattle.relocate.proofs.Steps.{RestIsLeft}
use Rattle.relocate.proofs.relocating.relocate_all.Given as goal

abbrev pub invariant-loop-constant : goal.invariant-loop-constant
invariant-loop-constant g l =
    RestIsLeft (laid l.p l.tree l.t) l.a (g.K.TextKeeper.content l.fn.kept) (g.K.TextKeeper.content l.kept)
    (g.K.TextKeeper.writable l.fn.kept) (g.K.TextKeeper.writable l.kept) (drop l.constant-index l.constant-items)
