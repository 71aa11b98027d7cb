use Rattle.std.proofs.Common.{◌≡◌, ◌∷◌, [], ◌++◌, true, sym, ap, subst, ◌∙◌}
use Rattle.std.specs.Prelude.{nat_eq}
use Rattle.std.specs.HashMap.{get}
use Rattle.member_checks.specs.Symbols.{names_text, number_after}
use Rattle.member_checks.proofs.SymbolLists.{kept_more}
use Rattle.member_checks.proofs.symbols.Symbols.with.Goals as goal

pub invariant_of-result : goal.invariant_of-result
invariant_of-result c =
    let named : names_text c.self.inside.items.items c.args.x c.args.x.kind ≡ true = subst (λ symbols. names_text symbols c.args.x c.args.x.kind ≡ true) (sym c.self.view_is) c.requires in
    let numbers : c.push.new.self.items ≡ c.self.inside.numbers.items ++ number_after c.self.inside.items.items c.args.x ∷ [] =
    c.in_ok-push.ensures.items ∙ ap (λ n. c.self.inside.numbers.items ++ n ∷ []) (c.number_after-number.ensures ∙ ap (λ symbols. number_after symbols c.args.x) (sym c.self.view_is)) in
    rw (c.in_ok-push-2.ensures.items, numbers, c.in_ok-note_address.ensures)
    (kept_more c.self.inside.items.items c.self.inside.addresses.items c.self.inside.numbers.items (get nat_eq c.self.inside.ends) (get nat_eq c.note_end.new.ends) c.args.x c.self.invariant named
    (λ segment. c.in_ok-note_end.ensures segment))
