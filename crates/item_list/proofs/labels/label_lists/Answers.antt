use Rattle.std.proofs.Common.{length, ap, ◌∙◌, fold}
use Rattle.item_list.specs.Maps.{noted}
use Rattle.item_list.proofs.LabelLists.{lists_made, all_folded}
use Rattle.item_list.proofs.labels.label_lists.Goals as goal

pub returns : goal.returns
returns c =
    all_folded c.args.origin c.loop-x.lists.items c.in_ok-lists.lists.items c.args.symbols.now c.loop-x.x-index c.loop-x-test.false c.loop-x.invariant
    ∙ ap (λ lists. fold (noted c.args.origin) lists c.args.symbols.now) c.in_ok-lists.ensures
    ∙ lists_made c.args.origin c.args.symbols.now (length c.args.symbols.now)
