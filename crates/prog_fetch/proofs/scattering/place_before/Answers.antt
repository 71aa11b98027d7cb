use Rattle.std.proofs.Common.{◌≡◌, true, false, nat_lt, ◌+◌, ◌||◌, ◌∙◌}
use Rattle.member_model.specs.Faults.{is_incomplete}
use Rattle.prog_fetch.proofs.Heading.{before_right, before_late, before_shown, placed_other, guard_is}
use Rattle.prog_fetch.proofs.scattering.place_before.Goals as goal

pub returns-in-Ok-clause-answer : goal.returns-in-Ok-clause-answer
returns-in-Ok-clause-answer c =
    before_right c.args.task.now.entry.now c.args.task.now.areas.now c.args.bytes.now c.args.walk.now c.next.new.self c.place-placed.result
    c.requires.scatter c.requires.segment c.in-Ok.ensures.walked c.place-placed.ensures

pub returns-in-Ok-clause-read : goal.returns-in-Ok-clause-read
returns-in-Ok-clause-read c = placed_other c.args.task.now.areas.now c.args.walk.now.facts.symbols c.place-placed.result c.place-placed.ensures

pub returns-then-comes_first-clause-answer : goal.returns-then-comes_first-clause-answer
returns-then-comes_first-clause-answer c =
    let guard : (nat_lt c.in-Err-At.number (c.args.walk.now.number + 1) || is_incomplete c.args.walk.now.facts) ≡ true =
    guard_is c.args.walk.now c.in-Err-At.number c.number-heads.result c.is_incomplete-is_incomplete.result c.comes_first.result c.comes_first.ensures c.number-heads.ensures c.is_incomplete-is_incomplete.ensures
    ∙ c.if-comes_first.true in
    before_shown c.args.task.now.entry.now c.args.task.now.areas.now c.args.bytes.now c.args.walk.now c.in-Err-At.number c.in-Err-At.what
    c.requires.scatter c.requires.segment (rw c.in-Err-At.field-0-is at c.in-Err-At.ensures.fault) guard

pub returns-else-comes_first-clause-answer : goal.returns-else-comes_first-clause-answer
returns-else-comes_first-clause-answer c =
    let guard : (nat_lt c.in-Err-At.number (c.args.walk.now.number + 1) || is_incomplete c.args.walk.now.facts) ≡ false =
    guard_is c.args.walk.now c.in-Err-At.number c.number-heads.result c.is_incomplete-is_incomplete.result c.comes_first.result c.comes_first.ensures c.number-heads.ensures c.is_incomplete-is_incomplete.ensures
    ∙ c.if-comes_first.false in
    before_late c.args.task.now.entry.now c.args.task.now.areas.now c.args.bytes.now c.args.walk.now c.in-Err-At.number c.in-Err-At.what c.place-placed.result
    c.requires.scatter c.requires.segment (rw c.in-Err-At.field-0-is at c.in-Err-At.ensures.fault) guard c.place-placed.ensures

pub returns-else-comes_first-clause-read : goal.returns-else-comes_first-clause-read
returns-else-comes_first-clause-read c = placed_other c.args.task.now.areas.now c.args.walk.now.facts.symbols c.place-placed.result c.place-placed.ensures

pub returns-in-Err-Memory-clause-answer : goal.returns-in-Err-Memory-clause-answer
returns-in-Err-Memory-clause-answer c = λ records rest walked all. tt
