use Rattle.fetch_storage.proofs.Stepping.{first_lies, one_field_more, no_field_more}
use Rattle.fetch_storage.proofs.parts.Parts.relocate.Goals as goal

pub relocate_one-requires : goal.relocate_one-requires
relocate_one-requires c =
    first_lies c.args.items.now c.args.shifts.now c.args.self.now c.loop-field.self c.args.fields.now c.loop-field.field-index _ c.loop-field-test.true c.loop-field.invariant

pub loop-field-preserved : goal.loop-field-preserved
loop-field-preserved c =
    one_field_more c.args.items.now c.args.shifts.now c.args.self.now c.loop-field.self c.relocate_one.new.self c.args.fields.now c.loop-field.field-index _ c.loop-field-test.true c.loop-field.invariant c.relocate_one.ensures

pub returns : goal.returns
returns c =
    no_field_more c.args.items.now c.args.shifts.now c.args.self.now c.loop-field.self c.args.fields.now c.loop-field.field-index c.loop-field-test.false c.loop-field.invariant
