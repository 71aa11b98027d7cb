use Rattle.std.proofs.Common.{ap, ◌∙◌, List}
use Rattle.std.specs.HashMap.{get}
use Rattle.le_bytes.specs.Names.{name_eq}
use Rattle.pds_directory.specs.declared.entry.Entry.{Entry}
use Rattle.pds_image.specs.Image.{first_from}
use Rattle.pds_image.proofs.Walking.{first_step, count_step, first_end}
use Rattle.pds_image.proofs.members.first_records.Goals as goal

pub loop-e-preserved : goal.loop-e-preserved
loop-e-preserved c = (
  λ n.
      first_step c.loop-e.next c.args.library.now c.entries-e-items.result.now c.loop-e.e-index _ (get name_eq c.loop-e.firsts n) _ c.added-next.result n _
      c.loop-e-test.true (c.in_ok-note_first.ensures n) c.added-next.ensures.value (c.loop-e.invariant.0 n),
  count_step c.loop-e.next c.args.library.now c.entries-e-items.result.now c.loop-e.e-index _ c.added-next.result _ c.loop-e-test.true c.added-next.ensures.value c.loop-e.invariant.1,
)

pub returns : goal.returns
returns c = λ n.
    first_end c.loop-e.next c.args.library.now c.entries-e-items.result.now c.loop-e.e-index _ n _ c.loop-e-test.false (c.loop-e.invariant.0 n)
    ∙ ap (λ (es : List Entry). first_from 1 c.args.library.now es n) c.entries-e-items.ensures
