use Rattle.std.proofs.Common.{ℕ, ◌∙◌, ap, sym, rules, take, drop}
use Rattle.relink_list.proofs.WritableBytes.{writable_then, writable_else}
use Rattle.relink_list.proofs.names.is_writable.Goals as goal

pub returns-then-is_word : goal.returns-then-is_word
returns-then-is_word c =
    c.are_blanks.ensures
    ∙ writable_then c.args.name.now c.split_at.result.0.now c.split_at.result.1.now (search rules)
    (c.split_at.ensures.front ∙ ap (λ (k : ℕ). take k c.args.name.now.0) c.written_length.ensures.value)
    (c.split_at.ensures.back ∙ ap (λ (k : ℕ). drop k c.args.name.now.0) c.written_length.ensures.value)
    (sym c.is_word.ensures ∙ c.if-is_word.true)

pub returns-else-is_word : goal.returns-else-is_word
returns-else-is_word c =
    c.if-is_word.false
    ∙ writable_else c.args.name.now c.split_at.result.0.now c.split_at.result.1.now (search rules)
    (c.split_at.ensures.front ∙ ap (λ (k : ℕ). take k c.args.name.now.0) c.written_length.ensures.value)
    (c.split_at.ensures.back ∙ ap (λ (k : ℕ). drop k c.args.name.now.0) c.written_length.ensures.value)
    (sym c.is_word.ensures ∙ c.if-is_word.false)
