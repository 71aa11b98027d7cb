use Rattle.std.proofs.Common.{◌∙◌, ap, List, map}
use Rattle.linking_model.specs.Kept.{Read}
use Rattle.linking_model.specs.Merged.{unresolved}
use Rattle.esd_index.specs.Contents.{now_of}
use Rattle.esd_lists.specs.Held.{as_read}
use Rattle.esd_lists.proofs.Unknowns.{unknown_list}
use Rattle.esd_merge.specs.Left.{name_pairs}
use Rattle.esd_merge.proofs.merged.Merged.unresolved.Goals as goal

pub returns : goal.returns
returns c =
    c.new.ensures
    ∙ ap name_pairs (unknown_list (map as_read c.self.inside.reads.items) (now_of c.self.inside.index) c.self.invariant.indexed)
    ∙ ap (λ (rs : List Read). name_pairs (unresolved rs)) c.self.view_is
