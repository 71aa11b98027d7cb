use Rattle.std.proofs.Common.{rules, ◌+◌, ◌∙◌, refl}
use Rattle.addr_assign.specs.Sizes.{sizes_of}
use Rattle.addr_assign.proofs.Ranges.{push_range}
use Rattle.addr_assign.proofs.Nexts.{end_is}
use Rattle.addr_assign.proofs.placing.ends.Goals as goal

pub loop-i-preserved : goal.loop-i-preserved
loop-i-preserved c =
    c.in_ok-push.ensures.items
    ∙ push_range (λ s. sizes_of c.args.origins.now s + sizes_of c.args.sizes.now s) 1 c.loop-i.i _ c.loop-i.ends.items c.loop-i.invariant
    (end_is c.args.origins.now c.args.sizes.now c.loop-i.i _ _ _ _ (search rules) (search rules) refl refl)
