use Rattle.std.proofs.Common.{◌∙◌, rules}
use Rattle.mod_read.proofs.Passing.{symbols_done}
use Rattle.mod_read.proofs.items.items.Goals as goal

pub returns : goal.returns
returns c = c.from_vec.ensures ∙ symbols_done c.args.numbering.now c.loop-x.made.items c.loop-x.x-index (search rules) c.loop-x.invariant
