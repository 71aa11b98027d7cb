use Rattle.esd_index.specs.Keys.{as_symbol}
use Rattle.esd_index.proofs.Parts.{roomed, added}
use Rattle.esd_index.proofs.subset.Subset.add.Goals as goal

pub returns-in_err-push-clause-part : goal.returns-in_err-push-clause-part
returns-in_err-push-clause-part c =
    roomed c.args.symbols.now c.args.self.now c.make_room.new.self c.push.new.self c.len.result c.requires.part c.in_ok-make_room.ensures.ok c.in_err-push.ensures.err

pub returns-clause-part : goal.returns-clause-part
returns-clause-part c =
    added c.args.symbols.now c.args.self.now c.make_room.new.self c.push.new.self (as_symbol c.args.key) c.args.at c.len.result c.requires.part c.requires.stands c.requires.absent c.len.ensures.len
    c.in_ok-make_room.ensures.ok c.in_ok-push.ensures.ok
