use Rattle.std.proofs.Common.{arith, rules, ◌≡◌, ◌+◌, ◌∷◌, All, [], length, refl, sym, ◌∙◌, ap, subst}
use Rattle.std.proofs.lemmas.List.Elements.{All-head, All-tail}
use Rattle.std.proofs.lemmas.List.{nil_from_length}
use Rattle.std.specs.Vec.Iter.{into_iter_items, into_iter_len}
use Rattle.std.specs.declared.vec.IntoIter.{IntoIter}
use Rattle.link_core.specs.Modules.{IsStowable}
use Rattle.command_link.specs.Stowing.{StowsModule}
use Rattle.command_link.specs.Link.{with_modules}
use Rattle.command_link.proofs.StowedModules.{goes_on, stops, ends}
use Rattle.command_link.proofs.stowing.with_modules.Goals as goal

-- one item fewer
shorter : {X Z : Type 0} (s t : IntoIter X Z) (x : X) → into_iter_items s ≡ x ∷ into_iter_items t → into_iter_len t + 1 ≡ into_iter_len s
    → into_iter_len s ≡ length (into_iter_items s) → into_iter_len t ≡ length (into_iter_items t)
shorter s t x steps gone was = omega (arith, gone, was, ap length steps)

pub loop-module-init : goal.loop-module-init
loop-module-init c =
    (refl, c.requires.kind, subst (All IsStowable) (sym (c.into_iter-module-iterator.ensures.into_iter_gives.0 ∙ c.into_vec-module-items.ensures)) c.requires.stowable, search rules)

pub stow-requires-clause-stowable : goal.stow-requires-clause-stowable
stow-requires-clause-stowable c =
    All-head IsStowable c.in-Some.module (into_iter_items c.next.new.self) (subst (All IsStowable) c.in-Some.ensures.steps.0 c.loop-module.invariant.2)

pub loop-module-preserved : goal.loop-module-preserved
loop-module-preserved c = (
  sym (goes_on c.loop-module.library c.stow.new.library c.in-Some.module (into_iter_items c.next.new.self) (subst (StowsModule c.loop-module.library c.in-Some.module c.stow.new.library) c.in-Ok-Ok.field-0-is c.in-Ok-Ok.ensures.stows))
      ∙ (sym (ap (with_modules c.loop-module.library) c.in-Some.ensures.steps.0) ∙ c.loop-module.invariant.0),
  c.in-Ok-Ok.ensures.kind,
  All-tail IsStowable c.in-Some.module (into_iter_items c.next.new.self) (subst (All IsStowable) c.in-Some.ensures.steps.0 c.loop-module.invariant.2),
  shorter c.loop-module.module-iterator c.next.new.self c.in-Some.module c.in-Some.ensures.steps.0 c.in-Some.ensures.steps.1 c.loop-module.invariant.3,
)

pub returns-in-Ok-Err : goal.returns-in-Ok-Err
returns-in-Ok-Err c =
    sym (stops c.loop-module.library c.in-Some.module (into_iter_items c.next.new.self) c.in-Ok-Err.refusal (subst (StowsModule c.loop-module.library c.in-Some.module c.stow.new.library) c.in-Ok-Err.field-0-is c.in-Ok-Err.ensures.stows))
    ∙ (sym (ap (with_modules c.loop-module.library) c.in-Some.ensures.steps.0)
    ∙ (c.loop-module.invariant.0 ∙ ap (with_modules c.args.library) (c.into_iter-module-iterator.ensures.into_iter_gives.0 ∙ c.into_vec-module-items.ensures)))

pub returns : goal.returns
returns c =
    let none : into_iter_items c.loop-module.module-iterator ≡ [] = nil_from_length (into_iter_items c.loop-module.module-iterator) (sym c.loop-module.invariant.3 ∙ c.in-None.ensures.steps.0) in
    sym (ends c.loop-module.library)
    ∙ (sym (ap (with_modules c.loop-module.library) none)
    ∙ (c.loop-module.invariant.0 ∙ ap (with_modules c.args.library) (c.into_iter-module-iterator.ensures.into_iter_gives.0 ∙ c.into_vec-module-items.ensures)))
