use Rattle.std.proofs.Common.{◌≡◌, ◌∙◌, ap, sym, true, false}
use Rattle.std.specs.Prelude.{is_some}
use Rattle.std.specs.Map.{lookup}
use Rattle.le_bytes.specs.Names.{name_eq}
use Rattle.linking_model.specs.Names.{with_first}
use Rattle.autocall.specs.Rules.{has_symbol_of}
use Rattle.autocall.proofs.Lists.{stays, comes_last}
use Rattle.autocall.proofs.dds.Dds.put.Goals as goal

pub returns-in_ok-insert-clause-ok : goal.returns-in_ok-insert-clause-ok
returns-in_ok-insert-clause-ok c =
    let absent : is_some (lookup (name_eq c.args.symbol) c.self.inside.by_symbol.entries) ≡ false = sym c.contains_key.ensures ∙ c.if-not-contains_key.true in
    c.in_ok-insert.ensures.entries ∙ comes_last c.args.symbol c.args.dd c.self.inside.by_symbol.entries absent
    ∙ ap (λ es. with_first has_symbol_of es (c.args.symbol, c.args.dd)) c.self.view_is

pub returns-else-not-contains_key-clause-ok : goal.returns-else-not-contains_key-clause-ok
returns-else-not-contains_key-clause-ok c =
    let there : is_some (lookup (name_eq c.args.symbol) c.self.inside.by_symbol.entries) ≡ true = sym c.contains_key.ensures ∙ c.if-not-contains_key.false in
    sym c.self.view_is ∙ stays c.args.symbol c.args.dd c.self.inside.by_symbol.entries there
    ∙ ap (λ es. with_first has_symbol_of es (c.args.symbol, c.args.dd)) c.self.view_is
