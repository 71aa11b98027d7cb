use Rattle.std.proofs.Common.{◌==◌, ◌∙◌, List, ap, sym, length}
use Rattle.std.specs.List.{list_any}
use Rattle.linking_model.specs.Kept.{symbol_eq}
use Rattle.esd_index.specs.declared.key.Key.{Key}
use Rattle.esd_index.specs.Keys.{as_symbol}
use Rattle.esd_index.specs.Marked.{Marked}
use Rattle.esd_index.proofs.Lists.{any_map, none_there}
use Rattle.esd_index.proofs.symbols.Symbols.has.Goals as goal

pub returns-then-is_empty : goal.returns-then-is_empty
returns-then-is_empty c =
    none_there c.args.key.now c.self.inside.keys.keys (ap (λ (ks : List Key). length ks == 0) (sym c.as_slice.ensures.keys) ∙ sym c.if-is_empty.ensures)
    ∙ ap (λ (v : Marked). list_any (symbol_eq (as_symbol c.args.key.now)) v.all) c.self.view_is

pub returns : goal.returns
returns c =
    c.contains.ensures ∙ any_map c.args.key.now c.self.inside.keys.keys
    ∙ ap (λ (v : Marked). list_any (symbol_eq (as_symbol c.args.key.now)) v.all) c.self.view_is
