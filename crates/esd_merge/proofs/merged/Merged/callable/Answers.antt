use Rattle.std.proofs.Common.{◌∙◌, ap, List, map}
use Rattle.linking_model.specs.Kept.{Read}
use Rattle.esd_index.specs.Contents.{now_of}
use Rattle.esd_lists.specs.Held.{as_read}
use Rattle.esd_merge.specs.Calls.{callable_at}
use Rattle.esd_merge.proofs.Callable.{callable_is}
use Rattle.esd_merge.proofs.merged.Merged.callable.Goals as goal

pub returns : goal.returns
returns c =
    c.callable.ensures
    ∙ callable_is (map as_read c.self.inside.reads.items) (now_of c.self.inside.index) c.args.place c.self.invariant.indexed
    ∙ ap (λ (rs : List Read). callable_at rs c.args.place) c.self.view_is
