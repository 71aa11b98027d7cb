use Rattle.std.proofs.Common.{ℕ, List, [], ◌∷◌, ◌++◌, All, sym, ap, ◌∙◌, subst}
use Rattle.mod_segments.specs.Chunks.{IsChunk}
use Rattle.mod_segments.proofs.Filled.{all_closed}
use Rattle.mod_segments.proofs.Held.{held}
use Rattle.mod_segments.proofs.chunking.filled.Goals as goal

pub returns-clause-value : goal.returns-clause-value
returns-clause-value c =
    c.ending.ensures
    ∙ (ap (λ (v : List (List ℕ)). v ++ c.in_ok-closed.field-0 ∷ []) c.made-2.view_is
    ∙ all_closed c.args.first c.args.rest.now c.loop-item.made c.loop-item.chunk c.loop-item.item-index c.in_ok-closed.field-0 c.requires.first c.requires.rest
    c.loop-item.invariant.made c.loop-item-test.false c.in_ok-closed.ensures)

pub returns-clause-kept : goal.returns-clause-kept
returns-clause-kept c =
    subst (All IsChunk) (sym (returns-clause-value c)) (held c.args.first c.args.rest.now c.requires.first c.requires.rest)
