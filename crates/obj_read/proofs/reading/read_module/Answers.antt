use Rattle.std.proofs.Common.{arith, ◌≤◌, length, sym, ◌∙◌, ap, subst}
use Rattle.sym_mod.specs.Sound.{IsSoundModule}
use Rattle.obj_read.specs.declared.gathering.Step.{Step}
use Rattle.obj_read.specs.Steps.{deck_from}
use Rattle.obj_read.specs.Kept.{IsKept, EndsWell}
use Rattle.obj_read.proofs.Decks.{deck_is, ends_at, whole_at, more_at, nothing_left}
use Rattle.obj_read.proofs.Kept.{nothing_kept}
use Rattle.obj_read.proofs.Sound.{sound_made}
use Rattle.obj_read.proofs.reading.read_module.Goals as goal

pub loop-place-init : goal.loop-place-init
loop-place-init c = record {
  rest = ap (λ f. deck_from f 0 c.args.cards.now) c.new-facts.ensures ∙ sym (deck_is c.args.cards.now);
  few = subst (λ f. length f.items ≤ 0) (sym c.new-facts.ensures) (omega arith);
  kept = subst (λ f. IsKept f) (sym c.new-facts.ensures) nothing_kept;
}

pub returns-in-Err : goal.returns-in-Err
returns-in-Err c =
    ends_at c.args.cards.now c.loop-place.facts c.loop-place.place _ c.loop-place.invariant.rest c.loop-place-test.true
    c.in-Err.wrong c.at.result c.at.ensures c.in-Err.ensures.exact

pub returns-in-Ok-Some : goal.returns-in-Ok-Some
returns-in-Ok-Some c =
    let step : Step = record { facts = c.read_step.new.facts; start = c.in-Ok-Some.field-0 } in
    let kept : IsKept step.facts × EndsWell step.facts step.start = c.in-Ok-Some.ensures.kept c.loop-place.invariant.kept in (
      whole_at c.args.cards.now c.loop-place.facts c.loop-place.place _ c.loop-place.invariant.rest c.loop-place-test.true
          step c.in-Ok-Some.start c.in_ok-made-in-Ok-Some.field-0 c.in-Ok-Some.ensures.exact c.in-Ok-Some.field-0-is c.in_ok-made-in-Ok-Some.ensures,
      omega arith,
      subst (λ m. IsSoundModule m) (sym c.in_ok-made-in-Ok-Some.ensures) (sound_made step.facts c.in-Ok-Some.start kept.0 (subst (λ o. EndsWell step.facts o) c.in-Ok-Some.field-0-is kept.1)),
    )

pub loop-place-preserved : goal.loop-place-preserved
loop-place-preserved c =
    let step : Step = record { facts = c.read_step.new.facts; start = c.in-Ok-None.field-0 } in
    record {
      rest = more_at c.args.cards.now c.loop-place.facts c.loop-place.place _ c.loop-place.invariant.rest c.loop-place-test.true
          step c.in-Ok-None.ensures.exact c.in-Ok-None.field-0-is;
      few = omega (arith, c.in-Ok-None.ensures.few, c.loop-place.invariant.few);
      kept = (c.in-Ok-None.ensures.kept c.loop-place.invariant.kept).0;
    }

pub returns : goal.returns
returns c = (nothing_left c.args.cards.now c.loop-place.facts c.loop-place.place c.loop-place.invariant.rest (omega arith), omega arith)
