use Rattle.std.proofs.Common.{◌≡◌, Some, None, slice_get, sym, ◌∙◌, ap}
use Rattle.std.specs.Option.{option_copied}
use Rattle.mod_read.proofs.Passing.{counted_from_one, not_past}
use Rattle.mod_read.proofs.Steps.{takes, shown}
use Rattle.mod_read.proofs.reading.take_next.Goals as goal

pub returns-in-Some-clause-read : goal.returns-in-Some-clause-read
returns-in-Some-clause-read c =
    let there : slice_get c.args.r.now c.args.before ≡ Some c.in-Some.bytes.now = sym (counted_from_one c.args.r.now c.args.before) ∙ (sym c.get.ensures ∙ ap option_copied c.in-Some.is) in
    takes c.args.e.now c.args.walk.now c.take_record.new.walk c.args.r.now c.args.before c.in-Some.bytes.now c.args.texts.now c.take_record.new.texts c.take_record.result there c.requires.read c.take_record.ensures.read

pub returns-in-Some-clause-fault : goal.returns-in-Some-clause-fault
returns-in-Some-clause-fault c =
    let there : slice_get c.args.r.now c.args.before ≡ Some c.in-Some.bytes.now = sym (counted_from_one c.args.r.now c.args.before) ∙ (sym c.get.ensures ∙ ap option_copied c.in-Some.is) in
    shown c.args.e.now c.args.walk.now c.args.r.now c.args.before c.in-Some.bytes.now c.args.texts.now c.take_record.result there c.requires.read c.take_record.ensures.fault

pub returns-in-None-clause-read : goal.returns-in-None-clause-read
returns-in-None-clause-read c =
    let none : slice_get c.args.r.now c.args.before ≡ None = sym (counted_from_one c.args.r.now c.args.before) ∙ (sym c.get.ensures ∙ ap option_copied c.in-None.is) in
    absurd (not_past c.args.r.now c.args.before c.requires.more none)
