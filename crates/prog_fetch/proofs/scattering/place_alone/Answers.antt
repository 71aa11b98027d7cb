use Rattle.std.proofs.Common.{◌≡◌, Some, None, sym, ◌∙◌, ap}
use Rattle.member_model.specs.FirstBad.{first_bad_of}
use Rattle.prog_fetch.proofs.Heading.{alone_right, alone_bad, placed_other}
use Rattle.prog_fetch.proofs.scattering.place_alone.Goals as goal

pub returns-in-Ok-clause-answer : goal.returns-in-Ok-clause-answer
returns-in-Ok-clause-answer c = λ records walked all.
    let good : first_bad_of c.args.task.now.entry.now records c.args.walk.now.facts.ended ≡ None =
    ap (first_bad_of c.args.task.now.entry.now records) (sym c.ended.ensures) ∙ sym (c.in-Ok.ensures records walked) in
    alone_right c.args.task.now.entry.now c.args.task.now.areas.now records c.args.walk.now c.place.result c.requires.scatter walked all good c.place.ensures

pub returns-in-Ok-clause-read : goal.returns-in-Ok-clause-read
returns-in-Ok-clause-read c = placed_other c.args.task.now.areas.now c.args.walk.now.facts.symbols c.place.result c.place.ensures

pub returns-in-Err-clause-answer : goal.returns-in-Err-clause-answer
returns-in-Err-clause-answer c = λ records walked all.
    let bad : first_bad_of c.args.task.now.entry.now records c.args.walk.now.facts.ended ≡ Some (c.in-Err.number, c.in-Err.what) =
    ap (first_bad_of c.args.task.now.entry.now records) (sym c.ended.ensures) ∙ sym (c.in-Err.ensures records walked) in
    alone_bad c.args.task.now.entry.now c.args.task.now.areas.now records c.args.walk.now c.in-Err.number c.in-Err.what c.requires.scatter walked all bad
