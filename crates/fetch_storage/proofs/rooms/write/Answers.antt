use Rattle.std.proofs.Common.{◌≡◌, rules}
use Rattle.fetch_storage.proofs.Writing.{wrote}
use Rattle.fetch_storage.proofs.rooms.write.Goals as goal

pub returns : goal.returns
returns c =
    let copied : c.copy_from_slice.new.self ≡ c.args.bytes.now = search rules in
    wrote c.args.rooms.now c.args.part c.args.from c.args.bytes.now c.copy_from_slice.new.self c.index-rooms-part.result c.requires c.index-rooms-part.is copied
