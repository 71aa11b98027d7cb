use Rattle.std.proofs.Common.{◌+◌, ◌++◌, ◌∷◌, [], sym, ◌∙◌, ap}
use Rattle.member_model.specs.Symbols.{is_section}
use Rattle.std.proofs.lemmas.List.Sums.{count_by_more_yes, count_by_more_no}
use Rattle.fetch_storage.proofs.Standing.{home_more}
use Rattle.fetch_storage.proofs.homes.homes.Goals as goal
use Rattle.fetch_storage.proofs.homes.homes.Goals.{then-is_section, else-is_section}

pub loop-item-preserved : goal.loop-item-preserved
loop-item-preserved c = record {
  made =
      c.in_ok-push.ensures.items
      ∙ (ap (λ h. c.loop-item.homes.items ++ h ∷ []) c.home_of.ensures
      ∙ home_more c.args.items.now c.args.p.now c.loop-item.homes.items c.loop-item.sections c.loop-item.item-index _ c.loop-item-test.true c.loop-item.invariant.made c.loop-item.invariant.counted);
  counted = elim c.if-is_section.branch [
    | then-is_section w ↦
        (w.sections-is ∙ (ap (λ n. n + 1) c.loop-item.invariant.counted
        ∙ sym (count_by_more_yes is_section c.args.items.now c.loop-item.item-index _ c.loop-item-test.true (sym c.is_section.ensures ∙ w.if-is_section.true))))
    | else-is_section w ↦
        (w.sections-is ∙ (c.loop-item.invariant.counted
        ∙ sym (count_by_more_no is_section c.args.items.now c.loop-item.item-index _ c.loop-item-test.true (sym c.is_section.ensures ∙ w.if-is_section.false))))
  ];
}
