use Rattle.std.proofs.Common.{rules}
use Rattle.addr_assign.proofs.Maps.{sections_first}
use Rattle.addr_assign.proofs.pointing.section_listed.Goals as goal

pub returns : goal.returns
returns c = search (rules, c.requires c.args.name.now, sections_first c.args.p.now.sections c.args.name.now)
