use Rattle.command_sets.proofs.LibraryKinds.{kind_read}
use Rattle.command_sets.proofs.bodies.whole_library.Goals as goal

pub returns-in-Ok-clause-read : goal.returns-in-Ok-clause-read
returns-in-Ok-clause-read c = kind_read c.args.bytes.items c.in-Ok.library c.requires c.in-Ok.ensures
