use Rattle.std.proofs.Common.{◌∙◌}
use Rattle.mod_read.proofs.Together.{put_together}
use Rattle.mod_read.proofs.making.module_of.Goals as goal

pub returns : goal.returns
returns c =
    put_together c.args.e.now c.args.walk.facts.symbols c.in_ok-numbering.numbering c.args.texts c.into_vec.result.items c.args.walk.facts.fields c.into_parts-symbols.result.fields.items c.as_slice.result.now
    c.in_ok-items.field-0 c.in_ok-fragments.field-0 c.in_ok-constants.field-0 c.entry_of.result
    (c.in_ok-numbering.ensures ∙ c.into_parts-symbols.ensures.symbols) c.into_vec.ensures c.as_slice.ensures.value c.into_parts-symbols.ensures.fields
    c.in_ok-items.ensures c.in_ok-fragments.ensures c.in_ok-constants.ensures c.entry_of.ensures
