use Rattle.std.proofs.Common.{◌≡◌, ◌/◌, ◌∷◌, [], ◌++◌, length, ap, sym, ◌∙◌, arith}
use Rattle.load_recs.specs.Items.{note_of}
use Rattle.member_checks.proofs.ItemLists.{list_next, list_over}
use Rattle.member_checks.proofs.notes.pushed.Goals as goal

pub loop-k-preserved : goal.loop-k-preserved
loop-k-preserved c =
    list_next note_of 12 c.loop-k.k c.args.items.now c.loop-k.notes _ c.loop-k-test.true
    (c.in_ok-push.ensures.ok ∙ ap (λ x. c.loop-k.notes ++ x ∷ []) c.note_item.ensures.value)
    ∙ c.loop-k.invariant

pub returns : goal.returns
returns c =
    let over : c.loop-k.k ≡ length c.args.items.now / 12 = omega arith in
    sym (list_over note_of 12 c.loop-k.k c.args.items.now c.loop-k.notes over) ∙ c.loop-k.invariant
