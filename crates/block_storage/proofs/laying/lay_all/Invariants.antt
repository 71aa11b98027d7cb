use Rattle.std.proofs.Common.{drop}
use Rattle.block_storage.proofs.Texts.{RestIsLeft}
use Rattle.block_storage.proofs.laying.lay_all.Given as goal

abbrev pub invariant-loop-text : goal.invariant-loop-text
invariant-loop-text g l =
    RestIsLeft l.p (g.K.TextKeeper.content l.fn.kept) (g.K.TextKeeper.content l.kept) (drop l.text-index l.text-items)
