use Rattle.fetch_storage.proofs.Writing.{shifted}
use Rattle.fetch_storage.proofs.rooms.shift_field.Goals as goal

pub returns : goal.returns
returns c =
    shifted c.args.rooms.now c.args.part c.args.from c.args.count _ c.slice_mut-field.result.now c.add_shift.new.field c.index-rooms-part.result
    c.requires.inside c.index-rooms-part.is c.slice_mut-field.ensures.value c.add_shift.ensures
