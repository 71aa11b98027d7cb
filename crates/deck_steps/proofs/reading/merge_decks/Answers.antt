use Rattle.std.proofs.Common.{arith, ◌+◌, length, ◌∙◌, ap}
use Rattle.deck_steps.specs.Decks.{at_end}
use Rattle.deck_steps.proofs.Walking.{goes_on, stops, ends}
use Rattle.deck_steps.proofs.reading.merge_decks.Goals as goal

pub loop-from-preserved : goal.loop-from-preserved
loop-from-preserved c = (
  goes_on c.args.short c.loop-from.from c.loop-from.merged c.args.cards.now _ c.take_step.new.merged c.in-Ok.taken
      c.loop-from-test.true c.loop-from.invariant.0 c.in-Ok.ensures.takes c.in-Ok.ensures.some c.in-Ok.ensures.inside,
  c.in-Ok.ensures.inside,
  c.in-Ok.ensures.root,
)

pub returns-in-Err-clause-reads : goal.returns-in-Err-clause-reads
returns-in-Err-clause-reads c =
    stops c.args.short c.loop-from.from c.loop-from.merged c.args.cards.now _ c.in-Err.stop c.loop-from-test.true
    c.loop-from.invariant.0 c.in-Err.ensures.takes

pub returns-then-short-clause-reads : goal.returns-then-short-clause-reads
returns-then-short-clause-reads c =
    ends c.args.short c.loop-from.from c.loop-from.merged c.args.cards.now _ c.loop-from.invariant.1 (omega (arith, c.loop-from-test.false)) c.loop-from.invariant.0
    ∙ ap (λ b. at_end b (length c.args.cards.now + 1) c.loop-from.merged) c.if-short.true

pub returns-else-short-clause-reads : goal.returns-else-short-clause-reads
returns-else-short-clause-reads c =
    ends c.args.short c.loop-from.from c.loop-from.merged c.args.cards.now _ c.loop-from.invariant.1 (omega (arith, c.loop-from-test.false)) c.loop-from.invariant.0
    ∙ ap (λ b. at_end b (length c.args.cards.now + 1) c.loop-from.merged) c.if-short.false
