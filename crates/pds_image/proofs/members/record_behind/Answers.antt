use Rattle.pds_image.proofs.Walking.{no_record_behind, some_record_behind}
use Rattle.pds_image.proofs.members.record_behind.Goals as goal

pub returns-in-None : goal.returns-in-None
returns-in-None c = no_record_behind c.args.records.now c.args.k c.requires.there c.in-None.ensures

pub returns-in-Some : goal.returns-in-Some
returns-in-Some c = some_record_behind c.args.records.now c.args.k c.in-Some.text.now c.in-Some.ensures
