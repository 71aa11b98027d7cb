use Rattle.std.proofs.Common.{◌∙◌, None}
use Rattle.std.specs.HashMap.{get}
use Rattle.le_bytes.specs.Names.{name_eq}
use Rattle.esd_index.specs.Contents.{now_of}
use Rattle.esd_lists.specs.Gathered.{label_step}
use Rattle.esd_lists.proofs.Gather.{if_ok}
use Rattle.esd_lists.proofs.Parts.{labels_are}
use Rattle.esd_lists.proofs.Walking.{gathered_is}
use Rattle.esd_lists.proofs.lists.program_labels.Goals as goal

pub returns : goal.returns
returns c =
    if_ok c.labels.result _ _ c.labels.ensures (λ list e.
    e ∙ labels_are (now_of c.args.index.now) c.args.reads.now (get name_eq c.args.gathered.now.labels) c.requires.holds
    (λ y. c.requires.labels y ∙ gathered_is (label_step (now_of c.args.index.now) c.args.reads.now y) None c.args.reads.now))
