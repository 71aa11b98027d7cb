use Rattle.std.proofs.Common.{rules}
use Rattle.addr_assign.proofs.Maps.{label_is}
use Rattle.addr_assign.proofs.pointing.label_of.Goals as goal

pub returns : goal.returns
returns c = search (rules, c.requires c.args.name.now, label_is c.args.p.now.labels c.args.name.now)
