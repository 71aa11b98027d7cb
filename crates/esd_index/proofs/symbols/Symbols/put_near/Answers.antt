use Rattle.std.proofs.Common.{◌≡◌, true, List, ◌∙◌, ap, sym, map}
use Rattle.std.specs.Prelude.{position}
use Rattle.linking_model.specs.Names.{with_first}
use Rattle.linking_model.specs.Kept.{symbol_eq}
use Rattle.esd_index.specs.declared.key.Key.{Key}
use Rattle.esd_index.specs.Keys.{as_symbol}
use Rattle.esd_index.specs.Marked.{Marked}
use Rattle.esd_index.specs.Parts.{stands_at}
use Rattle.esd_index.proofs.Lists.{insert_map}
use Rattle.esd_index.proofs.Parts.{key_placed, stored_stands, put_nothing}
use Rattle.esd_index.proofs.symbols.Symbols.put_near.Goals as goal

pub returns-clause-noted : goal.returns-clause-noted
returns-clause-noted c =
    ap (map as_symbol) c.in_ok-place.ensures.keys ∙ insert_map c.args.key c.self.inside.keys.keys
    ∙ ap (λ (v : Marked). with_first symbol_eq v.all (as_symbol c.args.key)) c.self.view_is

pub returns-clause-place : goal.returns-clause-place
returns-clause-place c =
    let stored = c.in_ok-place.ensures.stored in
    key_placed c.insert_full.new.self.keys c.in_ok-place.place (as_symbol c.args.key) c.insert_full.ensures.unique
    (stored_stands c.insert_full.new.self.keys c.in_ok-place.place c.args.key stored.0 stored.1 stored.2)

stands : (c : goal.Then-stands_at) → stands_at (map as_symbol c.self.inside.keys.keys) c.args.likely (as_symbol c.args.key) ≡ true
stands c =
    ap (λ (ks : List Key). stands_at (map as_symbol ks) c.args.likely (as_symbol c.args.key)) (sym c.as_slice.ensures.keys) ∙ sym c.stands_at.ensures ∙ c.if-stands_at.true

pub returns-then-stands_at-clause-place : goal.returns-then-stands_at-clause-place
returns-then-stands_at-clause-place c =
    ap (λ (v : Marked). position (symbol_eq (as_symbol c.args.key)) v.all) (sym c.self.view_is)
    ∙ key_placed c.self.inside.keys.keys c.args.likely (as_symbol c.args.key) c.as_slice.ensures.unique (stands c)

pub returns-then-stands_at-clause-noted : goal.returns-then-stands_at-clause-noted
returns-then-stands_at-clause-noted c = put_nothing c.args.self.now.all (as_symbol c.args.key) c.args.likely (returns-then-stands_at-clause-place c)
