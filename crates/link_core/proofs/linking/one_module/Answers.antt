use Rattle.std.proofs.Common.{◌≡◌, [], ◌∷◌, ◌++◌, All, sym, ◌∙◌, ap, subst}
use Rattle.std.proofs.lemmas.List.Elements.{All-nil, All-cons}
use Rattle.link_core.specs.Modules.{IsStowable}
use Rattle.link_core.proofs.linking.one_module.Goals as goal

pub returns-in-Ok-push-clause-stowable : goal.returns-in-Ok-push-clause-stowable
returns-in-Ok-push-clause-stowable c = λ name.
    let one : c.push.new.self ≡ c.in-Ok.module ∷ [] = c.in-Ok-push.ensures.ok ∙ ap (λ xs. xs ++ c.in-Ok.module ∷ []) c.new-modules.ensures in
    subst (All IsStowable) (sym one) (All-cons IsStowable c.in-Ok.module [] (c.in-Ok.ensures.stowable name) (All-nil IsStowable))
