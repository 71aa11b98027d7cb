use Rattle.std.proofs.Common.{◌∙◌, None}
use Rattle.std.specs.HashMap.{get}
use Rattle.le_bytes.specs.Names.{name_eq}
use Rattle.esd_index.specs.Contents.{now_of}
use Rattle.esd_lists.specs.Gathered.{extent_in, extent_step}
use Rattle.esd_lists.proofs.Gather.{if_ok}
use Rattle.esd_lists.proofs.Parts.{registers_are}
use Rattle.esd_lists.proofs.Walking.{gathered_is}
use Rattle.esd_lists.proofs.lists.program_registers.Goals as goal

pub returns : goal.returns
returns c =
    if_ok c.registers.result _ _ c.registers.ensures (λ list e.
    e ∙ registers_are (now_of c.args.index.now) c.args.reads.now (λ y. extent_in (get name_eq c.args.gathered.now.extents y)) c.requires.holds
    (λ y. c.requires.extents y ∙ gathered_is (extent_step y) (extent_in None) c.args.reads.now))
