use Rattle.std.proofs.Common.{length}
use Rattle.relocate.proofs.Rest.{RestIsLeft}
use Rattle.relocate.proofs.writing.write.Given as goal

abbrev pub invariant-loop-rest : goal.invariant-loop-rest
invariant-loop-rest g l =
    RestIsLeft (g.K.TextKeeper.content l.fn.kept) (g.K.TextKeeper.content l.kept) (g.K.TextKeeper.writable l.fn.kept) (g.K.TextKeeper.writable l.kept)
    l.sec l.at l.bytes l.from l.rest

abbrev pub decreases-loop-rest : goal.decreases-loop-rest
decreases-loop-rest g l = length l.rest
