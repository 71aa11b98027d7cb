use Rattle.std.proofs.Common.{◌∙◌, ap, length, drop}
use Rattle.esd_index.specs.Marked.{Marked}
use Rattle.esd_index.proofs.Fresh.{rest_fresh}
use Rattle.esd_index.proofs.symbols.Symbols.fresh.Goals as goal

pub returns : goal.returns
returns c =
    rest_fresh c.self.inside.mark c.self.inside.keys.keys c.as_slice.result.now c.self.invariant c.as_slice.ensures.keys
    ∙ ap (λ (v : Marked). drop (length v.marked) v.all) c.self.view_is
