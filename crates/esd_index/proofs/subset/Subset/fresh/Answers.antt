use Rattle.std.proofs.Common.{◌∙◌, ap, length, drop}
use Rattle.esd_index.specs.Parts.{Part}
use Rattle.esd_index.proofs.Fresh.{rest_fresh}
use Rattle.esd_index.proofs.subset.Subset.fresh.Goals as goal

pub returns : goal.returns
returns c =
    rest_fresh c.self.inside.mark c.self.inside.keys.items c.as_slice.result.now c.self.invariant c.as_slice.ensures.value
    ∙ ap (λ (v : Part). drop (length v.marked) v.all) c.self.view_is
