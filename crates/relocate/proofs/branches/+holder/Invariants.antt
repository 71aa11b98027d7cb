use Rattle.relocate.proofs.branches.+holder.Given as goal

abbrev pub decreases-holder : goal.decreases-holder
decreases-holder l = l.segment
