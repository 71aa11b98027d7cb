use Rattle.std.proofs.Common.{◌∙◌}
use Rattle.esd_index.specs.Contents.{now_of}
use Rattle.esd_lists.proofs.Gather.{if_ok}
use Rattle.esd_lists.proofs.Unknowns.{unknowns_are}
use Rattle.esd_lists.proofs.lists.program_unknowns.Goals as goal

pub returns : goal.returns
returns c = if_ok c.unknowns.result _ _ c.unknowns.ensures (λ list e. e ∙ unknowns_are (now_of c.args.index.now) c.args.reads.now c.requires.holds)
