use Rattle.std.proofs.Common.{◌≡◌, ◌++◌, ◌∷◌, [], Some, None, rules, sym, subst}
use Rattle.member_walk.specs.Told.{text_told}
use Rattle.mod_read.specs.Answers.{HasRead}
use Rattle.mod_read.proofs.JudgedSymbols.{each_byte}
use Rattle.mod_read.proofs.Steps.{reads_text, reads_other}
use Rattle.mod_read.proofs.reading.take_record.Goals as goal

pub returns-in_ok-push-in-Ok-Some-clause-read : goal.returns-in_ok-push-in-Ok-Some-clause-read
returns-in_ok-push-in-Ok-Some-clause-read c =
    let told : Some c.in-Ok-Some.place ≡ text_told c.args.walk.now = rw c.in-Ok-Some.field-0-is at c.in-Ok-Some.ensures.told in
    λ records read.
    subst (λ texts. HasRead c.args.e.now (records ++ c.args.bytes.now ∷ []) c.next.new.self texts) (sym c.in_ok-push-in-Ok-Some.ensures.ok)
    (reads_text c.args.e.now c.args.walk.now c.next.new.self c.args.bytes.now c.args.texts.now c.in_ok-text_at-in-Ok-Some.field-0 c.in-Ok-Some.place
    (each_byte c.args.bytes.now (λ i. search (rules, c.type_inv.bytes i))) c.in-Ok-Some.ensures.walked told c.in_ok-text_at-in-Ok-Some.ensures records read)

pub returns-in-Ok-None-clause-read : goal.returns-in-Ok-None-clause-read
returns-in-Ok-None-clause-read c =
    let told : None ≡ text_told c.args.walk.now = rw c.in-Ok-None.field-0-is at c.in-Ok-None.ensures.told in
    reads_other c.args.e.now c.args.walk.now c.next.new.self c.args.bytes.now c.args.texts.now (each_byte c.args.bytes.now (λ i. search (rules, c.type_inv.bytes i))) c.in-Ok-None.ensures.walked told
