use Rattle.std.proofs.Common.{arith, refl, sym, ◌∙◌}
use Rattle.link_core.specs.Sets.{primary_cards}
use Rattle.link_core.proofs.Primary.{is_found, is_later, is_none}
use Rattle.link_core.proofs.sets.primary_cards.Goals as goal

pub loop-set-init : goal.loop-set-init
loop-set-init c = refl

pub returns-then-eq : goal.returns-then-eq
returns-then-eq c =
    c.cards_in.ensures
    ∙ is_found c.args.sets.now c.loop-set.set-index (primary_cards c.args.sets.now) c.loop-set.invariant c.set-item.result c.loop-set-test.true c.set-item.is
    (sym c.eq.ensures ∙ c.if-eq.true)

pub loop-set-preserved : goal.loop-set-preserved
loop-set-preserved c =
    is_later c.args.sets.now c.loop-set.set-index (primary_cards c.args.sets.now) c.loop-set.invariant c.set-item.result c.loop-set-test.true c.set-item.is
    (sym c.eq.ensures ∙ c.if-eq.false)

pub returns : goal.returns
returns c = is_none c.args.sets.now c.loop-set.set-index (primary_cards c.args.sets.now) c.loop-set.invariant (omega (arith, c.loop-set-test.false))
