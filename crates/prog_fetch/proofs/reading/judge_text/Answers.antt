use Rattle.std.proofs.Common.{◌≡◌, Some, None}
use Rattle.member_walk.specs.Told.{text_told}
use Rattle.prog_fetch.proofs.Heads.{lies_next, lays_text, lays_none}
use Rattle.prog_fetch.proofs.reading.judge_text.Goals as goal

pub lay-requires : goal.lay-requires
lay-requires c =
    let told : Some c.in-Ok-Some.place ≡ text_told c.args.walk.now = rw c.in-Ok-Some.field-0-is at c.in-Ok-Some.ensures.told in
    lies_next c.args.task.now.entry.now c.args.task.now.placement.now c.args.walk.now c.next.new.self c.args.parts.now c.args.bytes.now c.in-Ok-Some.place
    c.requires.placement c.requires.laid c.in-Ok-Some.ensures.walked told

pub returns-in-Ok-Some-clause-laid : goal.returns-in-Ok-Some-clause-laid
returns-in-Ok-Some-clause-laid c =
    let told : Some c.in-Ok-Some.place ≡ text_told c.args.walk.now = rw c.in-Ok-Some.field-0-is at c.in-Ok-Some.ensures.told in
    lays_text c.args.task.now.entry.now c.args.task.now.placement.now c.args.walk.now c.next.new.self c.args.parts.now c.lay.new.self c.args.bytes.now c.in-Ok-Some.place
    c.requires.placement c.requires.on c.in-Ok-Some.ensures.walked told c.lay.ensures

pub returns-in-Ok-None-clause-laid : goal.returns-in-Ok-None-clause-laid
returns-in-Ok-None-clause-laid c =
    let told : None ≡ text_told c.args.walk.now = rw c.in-Ok-None.field-0-is at c.in-Ok-None.ensures.told in
    lays_none c.args.task.now.entry.now c.args.task.now.placement.now c.args.walk.now c.next.new.self c.args.parts.now c.args.bytes.now
    c.requires.late c.in-Ok-None.ensures.walked told
