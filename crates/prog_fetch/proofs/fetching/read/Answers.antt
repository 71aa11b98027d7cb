use Rattle.std.proofs.Common.{rules, ◌≡◌, Err, ap, ◌∙◌}
use Rattle.member_walk.specs.Walked.{Walked}
use Rattle.fetch_storage.specs.Kept.{empty_parts}
use Rattle.prog_fetch.specs.Reading.{HasHead, HasAll, IsOver, FindsFault}
use Rattle.prog_fetch.proofs.Calls.{stays_on, none_failed_on, reason_on, same_reason, as_before, as_after}
use Rattle.prog_fetch.proofs.Heads.{head_begins}
use Rattle.prog_fetch.proofs.fetching.read.Goals as goal

pub read_heads-requires-clause-head : goal.read_heads-requires-clause-head
read_heads-requires-clause-head g c =
    head_begins c.args.task.now.entry.now (g.R.RecordSource.list c.args.r.now c.args.s.now) (g.R.RecordSource.total c.args.r.now) c.new-walk.result
    (c.new-walk.ensures.walked c.args.task.now.entry.now)

pub read_heads-requires-clause-none : goal.read_heads-requires-clause-none
read_heads-requires-clause-none g c = ap (λ (w : Walked). w.number) c.new-walk.ensures.value

pub returns-in_err-read_heads-clause-reason : goal.returns-in_err-read_heads-clause-reason
returns-in_err-read_heads-clause-reason g c =
    let passed : c.from_residual.result ≡ Err c.in_err-read_heads.field-0.0 = search rules in
    same_reason _ _ c.read_heads.result _ c.in_err-read_heads.field-0.0 c.in_err-read_heads.was passed c.read_heads.ensures.reason

pub read_texts-requires-clause-head : goal.read_texts-requires-clause-head
read_texts-requires-clause-head g c =
    as_after (λ list total. HasHead c.args.task.now.entry.now list total c.read_heads.new.walk) _ _ c.in_ok-read_heads.ensures.stays c.in_ok-read_heads.ensures.head

pub read_texts-requires-clause-over : goal.read_texts-requires-clause-over
read_texts-requires-clause-over g c = λ none.
    as_after (λ list total. IsOver c.args.task.now.entry.now total c.read_heads.new.walk) _ _ c.in_ok-read_heads.ensures.stays (c.in_ok-read_heads.ensures.over none)

pub read_texts-requires-clause-empty : goal.read_texts-requires-clause-empty
read_texts-requires-clause-empty g c = c.in_ok-parts.ensures ∙ ap (λ ss. empty_parts ss c.args.task.now.placement.now) c.symbols.ensures

pub returns-in_err-read_texts-clause-fault : goal.returns-in_err-read_texts-clause-fault
returns-in_err-read_texts-clause-fault g c =
    let passed : c.from_residual-in_err-read_texts.result ≡ Err c.in_err-read_texts.field-0.0 = search rules in
    rw passed (as_before (λ list total. FindsFault list total c.args.task.now.entry.now c.in_err-read_texts.field-0.0) _ _ c.in_ok-read_heads.ensures.stays c.in_err-read_texts.ensures.fault)

pub returns-in_err-read_texts-clause-stays : goal.returns-in_err-read_texts-clause-stays
returns-in_err-read_texts-clause-stays g c = stays_on _ _ _ c.in_ok-read_heads.ensures.stays c.in_err-read_texts.ensures.stays

pub returns-in_err-read_texts-clause-reason : goal.returns-in_err-read_texts-clause-reason
returns-in_err-read_texts-clause-reason g c =
    let passed : c.from_residual-in_err-read_texts.result ≡ Err c.in_err-read_texts.field-0.0 = search rules in
    same_reason _ _ c.read_texts.result _ c.in_err-read_texts.field-0.0 c.in_err-read_texts.was passed
    (reason_on _ _ _ c.read_texts.result c.in_ok-read_heads.ensures.reason c.read_texts.ensures.reason)

pub returns-clause-read : goal.returns-clause-read
returns-clause-read g c =
    as_before (λ list total. HasAll c.args.task.now.entry.now list total c.args.task.now.placement.now c.read_texts.new.walk c.read_texts.new.parts) _ _
    c.in_ok-read_heads.ensures.stays c.in_ok-read_texts.ensures.all

pub returns-clause-stays : goal.returns-clause-stays
returns-clause-stays g c = stays_on _ _ _ c.in_ok-read_heads.ensures.stays c.in_ok-read_texts.ensures.stays

pub returns-clause-reason : goal.returns-clause-reason
returns-clause-reason g c = none_failed_on _ _ _ c.in_ok-read_heads.ensures.reason c.in_ok-read_texts.ensures.reason
