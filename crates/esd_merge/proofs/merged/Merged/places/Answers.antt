use Rattle.std.proofs.Common.{◌∙◌, ap, List, map, length}
use Rattle.linking_model.specs.Kept.{Read, appearance}
use Rattle.esd_index.specs.Contents.{Contents}
use Rattle.esd_index.specs.Marked.{Marked}
use Rattle.esd_lists.specs.Held.{as_read}
use Rattle.esd_merge.proofs.Callable.{symbols_are}
use Rattle.esd_merge.proofs.merged.Merged.places.Goals as goal

pub returns : goal.returns
returns c =
    c.len.ensures.len
    ∙ ap (λ (v : Marked). length v.all) c.symbols.ensures
    ∙ ap (λ (d : Contents). length d.symbols) c.self.invariant.indexed
    ∙ ap length (symbols_are (map as_read c.self.inside.reads.items))
    ∙ ap (λ (rs : List Read). length (appearance rs)) c.self.view_is
