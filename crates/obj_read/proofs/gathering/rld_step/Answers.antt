use Rattle.std.proofs.Common.{rules, Ok, None}
use Rattle.obj_cards.specs.declared.card.Card.TheVariants.{Rld}
use Rattle.obj_read.specs.Steps.{Steps, step_of}
use Rattle.obj_read.specs.declared.gathering.Step.{Step}
use Rattle.obj_read.proofs.Kept.{kept_result}
use Rattle.obj_read.proofs.gathering.rld_step.Goals as goal

pub returns-clause-kept : goal.returns-clause-kept
returns-clause-kept c =
    let f = c.args.facts.now in
    let step : Step = record { facts = record f { terms = c.add_terms.new.terms }; start = None } in
    let exact : Steps (step_of f (Ok (Rld c.read_rld.new.card))) (Ok step) = search rules in
    kept_result f (Ok (Rld c.read_rld.new.card)) (Ok step) c.in_ok-read_rld.ensures.in_range exact
