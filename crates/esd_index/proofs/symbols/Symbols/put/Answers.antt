use Rattle.std.proofs.Common.{◌∙◌, ap, not, map}
use Rattle.std.specs.List.{list_any}
use Rattle.linking_model.specs.Names.{with_first}
use Rattle.linking_model.specs.Kept.{symbol_eq}
use Rattle.esd_index.specs.Keys.{as_symbol}
use Rattle.esd_index.specs.Marked.{Marked}
use Rattle.esd_index.proofs.Lists.{any_map, insert_map}
use Rattle.esd_index.proofs.symbols.Symbols.put.Goals as goal

pub returns-clause-noted : goal.returns-clause-noted
returns-clause-noted c =
    ap (map as_symbol) c.in_ok-insert.ensures.keys ∙ insert_map c.args.key c.self.inside.keys.keys
    ∙ ap (λ (v : Marked). with_first symbol_eq v.all (as_symbol c.args.key)) c.self.view_is

pub returns-clause-fresh : goal.returns-clause-fresh
returns-clause-fresh c =
    c.in_ok-insert.ensures.added ∙ ap not (any_map c.args.key c.self.inside.keys.keys)
    ∙ ap (λ (v : Marked). not (list_any (symbol_eq (as_symbol c.args.key)) v.all)) c.self.view_is
