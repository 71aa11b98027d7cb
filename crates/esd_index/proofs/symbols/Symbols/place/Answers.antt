use Rattle.std.proofs.Common.{◌∙◌, ap, position}
use Rattle.linking_model.specs.Kept.{symbol_eq}
use Rattle.esd_index.specs.Keys.{as_symbol}
use Rattle.esd_index.specs.Marked.{Marked}
use Rattle.esd_index.proofs.Lists.{position_map}
use Rattle.esd_index.proofs.symbols.Symbols.place.Goals as goal

pub returns-clause-place : goal.returns-clause-place
returns-clause-place c =
    c.get_index_of.ensures.index ∙ position_map c.args.key.now c.self.inside.keys.keys
    ∙ ap (λ (v : Marked). position (symbol_eq (as_symbol c.args.key.now)) v.all) c.self.view_is
