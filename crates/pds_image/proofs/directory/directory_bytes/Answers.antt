use Rattle.std.proofs.Common.{◌∙◌, ap, List, ℕ, ◌++◌}
use Rattle.pds_image.specs.Spelling.{block_bytes}
use Rattle.pds_image.proofs.Blocks.{directory_is}
use Rattle.pds_image.proofs.directory.directory_bytes.Goals as goal

pub returns : goal.returns
returns c =
    directory_is c.args.library.now c.entries-e-items.result.now c.loop-e.e-index c.loop-e.full.items c.loop-e.begun.items c.put_entry-2.new.full.items c.put_entry-2.new.begun.items _
    c.loop-e-test.false c.entries-e-items.ensures c.loop-e.invariant c.in_ok-put_entry-2.ensures
    (c.in_ok-put_block.ensures ∙ ap (λ (x : List ℕ). c.put_entry-2.new.full.items ++ block_bytes x) c.as_slice-2.ensures.value)
