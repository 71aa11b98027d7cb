use Rattle.std.proofs.Common.{arith, rules, ◌≡◌, ◌+◌, inr, Err, ap, sym, ◌∙◌, length}
use Rattle.prog_fetch.specs.Reading.{HasText, FindsFault}
use Rattle.prog_fetch.proofs.Calls.{stays_none, stays_on, none_failed, none_failed_on, reason_on, as_before, as_after}
use Rattle.prog_fetch.proofs.Heads.{all_heads, text_begins, all_texts}
use Rattle.prog_fetch.proofs.Records.{number_of_walk}
use Rattle.prog_fetch.proofs.fetching.read_texts.Goals as goal

pub loop-before-init : goal.loop-before-init
loop-before-init g c = record {
  text = text_begins c.args.task.now.entry.now (g.R.RecordSource.list c.args.r.now c.args.s.now) (g.R.RecordSource.total c.args.r.now) c.args.task.now.placement.now
      c.args.walk.now c.args.parts.now c.in-Some.field-0 c.requires.head c.requires.empty (sym c.due.ensures ∙ c.in-Some.is);
  counted = sym c.number-before.ensures;
  stays = stays_none _;
  none_failed = none_failed _;
}

pub take_text-requires-clause-text : goal.take_text-requires-clause-text
take_text-requires-clause-text g c =
    as_after (λ list total. HasText c.args.task.now.entry.now list total c.args.task.now.placement.now c.loop-before.walk c.loop-before.parts) _ _
    c.loop-before.invariant.stays c.loop-before.invariant.text

pub take_text-requires-clause-more : goal.take_text-requires-clause-more
take_text-requires-clause-more g c =
    omega (arith, c.loop-before-test.true, c.count-before-end.ensures.total, c.loop-before.invariant.stays.records.total)

pub loop-before-preserved : goal.loop-before-preserved
loop-before-preserved g c = record {
  text = as_before (λ list total. HasText c.args.task.now.entry.now list total c.args.task.now.placement.now c.take_text.new.walk c.take_text.new.parts) _ _
      c.loop-before.invariant.stays c.in_ok-take_text.ensures.text;
  counted = c.in_ok-take_text.ensures.counted ∙ ap (λ n. n + 1) c.loop-before.invariant.counted;
  stays = stays_on _ _ _ c.loop-before.invariant.stays c.in_ok-take_text.ensures.stays;
  none_failed = none_failed_on _ _ _ c.loop-before.invariant.none_failed c.in_ok-take_text.ensures.reason;
}

pub returns-in_err-take_text-clause-fault : goal.returns-in_err-take_text-clause-fault
returns-in_err-take_text-clause-fault g c =
    let passed : c.from_residual.result ≡ Err c.in_err-take_text.field-0.0 = search rules in
    rw passed (as_before (λ list total. FindsFault list total c.args.task.now.entry.now c.in_err-take_text.field-0.0) _ _ c.loop-before.invariant.stays c.in_err-take_text.ensures.fault)

pub returns-in_err-take_text-clause-stays : goal.returns-in_err-take_text-clause-stays
returns-in_err-take_text-clause-stays g c = stays_on _ _ _ c.loop-before.invariant.stays c.in_err-take_text.ensures.stays

pub returns-in_err-take_text-clause-reason : goal.returns-in_err-take_text-clause-reason
returns-in_err-take_text-clause-reason g c =
    let passed : c.from_residual.result ≡ Err c.in_err-take_text.field-0.0 = search rules in
    rw passed (reason_on {X = Unit {0}} _ _ _ (Err c.in_err-take_text.field-0.0) c.loop-before.invariant.none_failed c.in_err-take_text.ensures.reason)

pub returns-clause-all : goal.returns-clause-all
returns-clause-all g c =
    let text = c.loop-before.invariant.text in
    let count : c.loop-before.walk.number ≡ length text.0 = number_of_walk c.args.task.now.entry.now text.0 c.loop-before.walk text.1.walked in
    all_texts c.args.task.now.entry.now (g.R.RecordSource.list c.args.r.now c.args.s.now) (g.R.RecordSource.total c.args.r.now) c.args.task.now.placement.now
    c.loop-before.walk c.loop-before.parts text
    (inr (omega (arith, count, text.1.few, c.loop-before-test.false, c.count-before-end.ensures.total, c.loop-before.invariant.counted)))

pub returns-in_default-clause-all : goal.returns-in_default-clause-all
returns-in_default-clause-all g c =
    all_heads c.args.task.now.entry.now (g.R.RecordSource.list c.args.r.now c.args.s.now) (g.R.RecordSource.total c.args.r.now) c.args.task.now.placement.now
    c.args.walk.now c.args.parts.now c.requires.head c.requires.empty (c.requires.over (sym c.due.ensures ∙ c.in_default.is))
