use Rattle.std.proofs.Common.{[], get_or}
use Rattle.ctl_cards.proofs.CardLaws.{text_begins, text_more, same_card}
use Rattle.ctl_cards.proofs.reading.joined_operand.Goals as goal

pub loop-card-init : goal.loop-card-init
loop-card-init c = rw (c.in_ok-text.ensures.items, c.operand_on.ensures) (text_begins c.args.first.now c.args.more.now)

pub loop-card-preserved : goal.loop-card-preserved
loop-card-preserved c = rw (c.in_ok-extend_from_slice.ensures.items, c.continuation_on.ensures)
    (text_more c.args.first.now c.args.more.now c.loop-card.text.items c.loop-card.card-index (get_or c.args.more.now c.loop-card.card-index []) c.loop-card.invariant c.loop-card-test.true (same_card c.args.more.now c.loop-card.card-index c.loop-card-test.true))
