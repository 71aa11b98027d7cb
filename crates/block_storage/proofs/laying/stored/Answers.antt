use Rattle.std.proofs.Common.{◌≡◌, ℕ, map, fold, length, replicate, ◌∙◌, ap}
use Rattle.text_store.specs.Whole.{content_of}
use Rattle.block_storage.specs.Texts.{with_text}
use Rattle.block_storage.proofs.Texts.{zero_lengths, stored_all}
use Rattle.block_storage.proofs.laying.stored.Goals as goal

pub lay_all-requires-clause-lengths : goal.lay_all-requires-clause-lengths
lay_all-requires-clause-lengths c =
    ap (map length) c.in_ok-text.ensures
    ∙ (zero_lengths c.deref.result.now ∙ (c.deref.ensures.value ∙ (c.in_ok-lengths.ensures ∙ ap (map (λ x. x.length)) c.as_slice.ensures)))

pub returns : goal.returns
returns c =
    let zero : content_of c.in_ok-text.text ≡ map (λ n. replicate {A = ℕ} n 0) (map (λ x. x.length) c.args.p.now.sections) =
    c.in_ok-text.ensures ∙ ap (map (λ n. replicate {A = ℕ} n 0)) (c.deref.ensures.value ∙ (c.in_ok-lengths.ensures ∙ ap (map (λ x. x.length)) c.as_slice.ensures)) in
    c.in_ok-lay_all.ensures ∙ (ap (λ X. fold with_text X c.args.p.now.texts) zero ∙ stored_all c.args.p.now c.requires.texts)
