use Rattle.std.proofs.Common.{rules, ap, ◌∙◌, slice_set}
use Rattle.std.proofs.lemmas.List.Edits.{map_over_more}
use Rattle.addr_assign.specs.Maps.{moved}
use Rattle.addr_assign.proofs.settling.moved.Goals as goal

pub loop-i-preserved : goal.loop-i-preserved
loop-i-preserved c =
    ap (λ y. slice_set c.loop-i.list.items c.loop-i.i y) c.move_one.ensures
    ∙ map_over_more (moved c.args.t.now.tree c.args.inserts.now) c.into_vec-list.result.items c.loop-i.list.items c.loop-i.i c.index_mut.result.now
    (search rules) c.loop-i.invariant c.index_mut.ensures.value
