use Rattle.std.proofs.Common.{arith, rules, ◌≡◌, ◌+◌, Err, Ok, ap, ◌∙◌}
use Rattle.prog_fetch.specs.Scattering.{HasHeads, PlacesSome}
use Rattle.prog_fetch.proofs.Calls.{stays_none, stays_on, none_failed, none_failed_on, as_before, as_after}
use Rattle.prog_fetch.proofs.Heading.{heads_begin, alone_answers}
use Rattle.prog_fetch.proofs.ScatterCalls.{other_reason, reason_on, same_reason}
use Rattle.prog_fetch.proofs.scattering.place_heads.Goals as goal

pub loop-before-init : goal.loop-before-init
loop-before-init g c = record {
  heads = heads_begin c.args.task.now.entry.now (g.R.RecordSource.list c.args.r.now c.args.s.now) (g.R.RecordSource.total c.args.r.now) c.new-walk.result
      (c.new-walk.ensures.walked c.args.task.now.entry.now);
  counted = ap (λ w. w.number) c.new-walk.ensures.value;
  stays = stays_none _;
  none_failed = none_failed _;
}

pub take_next-requires-clause-heads : goal.take_next-requires-clause-heads
take_next-requires-clause-heads g c =
    as_after (λ list total. HasHeads c.args.task.now.entry.now list total c.loop-before.walk) _ _ c.loop-before.invariant.stays c.loop-before.invariant.heads

pub take_next-requires-clause-more : goal.take_next-requires-clause-more
take_next-requires-clause-more g c =
    omega (arith, c.loop-before-test.true, c.count-before-end.ensures.total, c.loop-before.invariant.stays.records.total)

pub loop-before-preserved : goal.loop-before-preserved
loop-before-preserved g c = record {
  heads = as_before (λ list total. HasHeads c.args.task.now.entry.now list total c.take_next.new.walk) _ _ c.loop-before.invariant.stays
      (c.in_ok-placement.ensures.heads c.in_default.is);
  counted = c.in_ok-placement.ensures.counted c.in_default.is ∙ ap (λ n. n + 1) c.loop-before.invariant.counted;
  stays = stays_on _ _ _ c.loop-before.invariant.stays c.in_ok-placement.ensures.stays;
  none_failed = none_failed_on _ _ _ c.loop-before.invariant.none_failed c.in_ok-placement.ensures.reason;
}

pub returns-in_err-placement-clause-answer : goal.returns-in_err-placement-clause-answer
returns-in_err-placement-clause-answer g c =
    let passed : c.from_residual.result ≡ Err c.in_err-placement.field-0.0 = search rules in
    rw passed (as_before (λ list total. PlacesSome list total c.args.task.now.entry.now c.args.task.now.areas.now (Err c.in_err-placement.field-0.0)) _ _
    c.loop-before.invariant.stays c.in_err-placement.ensures.answer)

pub returns-in_err-placement-clause-stays : goal.returns-in_err-placement-clause-stays
returns-in_err-placement-clause-stays g c = stays_on _ _ _ c.loop-before.invariant.stays c.in_err-placement.ensures.stays

pub returns-in_err-placement-clause-reason : goal.returns-in_err-placement-clause-reason
returns-in_err-placement-clause-reason g c =
    let passed : c.from_residual.result ≡ Err c.in_err-placement.field-0.0 = search rules in
    same_reason _ _ c.take_next.result _ c.in_err-placement.field-0.0 c.in_err-placement.was passed (reason_on _ _ _ c.take_next.result c.loop-before.invariant.none_failed c.take_next.ensures.reason)

pub returns-in-Some-clause-answer : goal.returns-in-Some-clause-answer
returns-in-Some-clause-answer g c =
    as_before (λ list total. PlacesSome list total c.args.task.now.entry.now c.args.task.now.areas.now (Ok c.in-Some.placement)) _ _
    c.loop-before.invariant.stays (rw c.in-Some.is at c.in_ok-placement.ensures.answer)

pub returns-in-Some-clause-stays : goal.returns-in-Some-clause-stays
returns-in-Some-clause-stays g c = stays_on _ _ _ c.loop-before.invariant.stays c.in_ok-placement.ensures.stays

pub returns-in-Some-clause-reason : goal.returns-in-Some-clause-reason
returns-in-Some-clause-reason g c = none_failed_on _ _ _ c.loop-before.invariant.none_failed c.in_ok-placement.ensures.reason

pub returns-clause-answer : goal.returns-clause-answer
returns-clause-answer g c =
    alone_answers c.args.task.now.entry.now c.args.task.now.areas.now (g.R.RecordSource.list c.args.r.now c.args.s.now) (g.R.RecordSource.total c.args.r.now)
    (g.R.RecordSource.lengths c.args.r.now) c.loop-before.walk c.place_alone.result (g.met.R.RecordSource.agrees c.args.r.now c.args.s.now) c.loop-before.invariant.heads
    (omega (arith, c.loop-before-test.false, c.count-before-end.ensures.total, c.loop-before.invariant.counted, c.loop-before.auto.before-end))
    c.place_alone.ensures.answer

pub returns-clause-reason : goal.returns-clause-reason
returns-clause-reason g c = other_reason _ _ c.place_alone.result c.loop-before.invariant.none_failed c.place_alone.ensures.read
