use Rattle.std.proofs.Common.{refl, sym}
use Rattle.pds_directory.proofs.Owners.{owner_more, no_owner}
use Rattle.pds_directory.proofs.directory.owners_of.Goals as goal

pub loop-i-init : goal.loop-i-init
loop-i-init c = λ t. rw (c.new-owners.ensures.empty, no_owner t) refl

pub loop-i-preserved : goal.loop-i-preserved
loop-i-preserved c = λ t.
    rw (c.in_ok-note_owner.ensures t, c.loop-i.invariant t) (sym (owner_more c.args.entries.now c.loop-i.i _ t c.loop-i-test.true))
