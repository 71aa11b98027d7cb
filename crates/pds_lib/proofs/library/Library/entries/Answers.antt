use Rattle.std.proofs.Common.{◌∙◌}
use Rattle.pds_lib.proofs.Members.{entries-members}
use Rattle.pds_lib.proofs.library.Library.entries.Goals as goal

pub returns : goal.returns
returns c =
    rw (← c.self.view_is)
    (c.entries.ensures ∙ entries-members c.self.inside.image.items c.self.inside.places.items c.self.inside.given.items c.self.inside.table)
