use Rattle.std.proofs.Common.{rules, Ok, Some}
use Rattle.obj_cards.specs.declared.card.Card.TheVariants.{End}
use Rattle.obj_read.specs.Steps.{Steps, step_of}
use Rattle.obj_read.specs.declared.gathering.Step.{Step}
use Rattle.obj_read.proofs.Kept.{kept_result}
use Rattle.obj_read.proofs.gathering.end_step.Goals as goal

pub returns-in-None-clause-kept : goal.returns-in-None-clause-kept
returns-in-None-clause-kept c =
    let f = c.args.facts.now in
    let step : Step = record { facts = c.match-end.facts; start = Some c.args.end.now.start } in
    let exact : Steps (step_of f (Ok (End c.args.end.now))) (Ok step) = search rules in
    kept_result f (Ok (End c.args.end.now)) (Ok step) c.requires exact
