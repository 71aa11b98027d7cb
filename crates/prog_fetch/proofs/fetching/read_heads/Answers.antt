use Rattle.std.proofs.Common.{arith, rules, ◌≡◌, ◌+◌, inr, Err, ap, ◌∙◌}
use Rattle.prog_fetch.specs.Reading.{HasHead, FindsFault}
use Rattle.prog_fetch.proofs.Calls.{stays_none, stays_on, none_failed, none_failed_on, reason_on, as_before, as_after}
use Rattle.prog_fetch.proofs.fetching.read_heads.Goals as goal

pub loop-before-init : goal.loop-before-init
loop-before-init g c = record { head = c.requires.head; counted = c.requires.none; stays = stays_none _; none_failed = none_failed _ }

pub take_head-requires-clause-head : goal.take_head-requires-clause-head
take_head-requires-clause-head g c =
    as_after (λ list total. HasHead c.args.e.now list total c.loop-before.walk) _ _ c.loop-before.invariant.stays c.loop-before.invariant.head

pub take_head-requires-clause-more : goal.take_head-requires-clause-more
take_head-requires-clause-more g c =
    omega (arith, c.loop-before-test.true, c.count-before-end.ensures.total, c.loop-before.invariant.stays.records.total)

pub loop-before-preserved : goal.loop-before-preserved
loop-before-preserved g c = record {
  head = as_before (λ list total. HasHead c.args.e.now list total c.take_head.new.walk) _ _ c.loop-before.invariant.stays c.in_ok-take_head.ensures.head;
  counted = c.in_ok-take_head.ensures.counted ∙ ap (λ n. n + 1) c.loop-before.invariant.counted;
  stays = stays_on _ _ _ c.loop-before.invariant.stays c.in_ok-take_head.ensures.stays;
  none_failed = none_failed_on _ _ _ c.loop-before.invariant.none_failed c.in_ok-take_head.ensures.reason;
}

pub returns-in_err-take_head-clause-fault : goal.returns-in_err-take_head-clause-fault
returns-in_err-take_head-clause-fault g c =
    let passed : c.from_residual.result ≡ Err c.in_err-take_head.field-0.0 = search rules in
    rw passed (as_before (λ list total. FindsFault list total c.args.e.now c.in_err-take_head.field-0.0) _ _ c.loop-before.invariant.stays c.in_err-take_head.ensures.fault)

pub returns-in_err-take_head-clause-stays : goal.returns-in_err-take_head-clause-stays
returns-in_err-take_head-clause-stays g c = stays_on _ _ _ c.loop-before.invariant.stays c.in_err-take_head.ensures.stays

pub returns-in_err-take_head-clause-reason : goal.returns-in_err-take_head-clause-reason
returns-in_err-take_head-clause-reason g c =
    let passed : c.from_residual.result ≡ Err c.in_err-take_head.field-0.0 = search rules in
    rw passed (reason_on {X = Unit {0}} _ _ _ (Err c.in_err-take_head.field-0.0) c.loop-before.invariant.none_failed c.in_err-take_head.ensures.reason)

pub returns-clause-over : goal.returns-clause-over
returns-clause-over g c = λ none.
    inr (omega (arith, c.loop-before-test.false, c.count-before-end.ensures.total, c.loop-before.invariant.counted, c.loop-before.auto.before-end))
