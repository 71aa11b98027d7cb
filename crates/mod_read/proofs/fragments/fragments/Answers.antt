use Rattle.std.proofs.Common.{◌≡◌, ◌+◌, [], ◌∷◌, ◌∙◌, sym, ap, fold, length, arith}
use Rattle.std.proofs.lemmas.List.{nil_from_length}
use Rattle.std.specs.Vec.Iter.{into_iter_items, into_iter_len}
use Rattle.std.specs.declared.vec.IntoIter.{IntoIter}
use Rattle.mod_read.specs.Gathered.{with_text}
use Rattle.mod_read.proofs.Passing.{texts_done}
use Rattle.mod_read.proofs.fragments.fragments.Goals as goal

-- one text fewer
shorter : {X Z : Type 0} (s t : IntoIter X Z) (x : X) → into_iter_items s ≡ x ∷ into_iter_items t → into_iter_len t + 1 ≡ into_iter_len s
    → into_iter_len s ≡ length (into_iter_items s) → into_iter_len t ≡ length (into_iter_items t)
shorter s t x steps gone was = omega (arith, gone, was, ap length steps)

pub loop-text-preserved : goal.loop-text-preserved
loop-text-preserved c = record {
  made = ap (λ made. fold (with_text c.args.numbering.now) made (into_iter_items c.next.new.self)) c.in_ok-made.ensures
      ∙ (sym (ap (λ xs. fold (with_text c.args.numbering.now) c.loop-text.made.items xs) c.in-Some.ensures.steps.0) ∙ c.loop-text.invariant.made);
  left = shorter c.loop-text.text-iterator c.next.new.self c.in-Some.text c.in-Some.ensures.steps.0 c.in-Some.ensures.steps.1 c.loop-text.invariant.left;
}

pub returns : goal.returns
returns c =
    let none : into_iter_items c.loop-text.text-iterator ≡ [] =
    nil_from_length (into_iter_items c.loop-text.text-iterator) (sym c.loop-text.invariant.left ∙ c.in-None.ensures.steps.0) in
    c.from_vec.ensures
    ∙ texts_done c.args.numbering.now c.loop-text.made.items (into_iter_items c.loop-text.text-iterator) c.args.texts.items none
    (c.loop-text.invariant.made ∙ ap (λ xs. fold (with_text c.args.numbering.now) [] xs) c.into_iter-text-iterator.ensures.into_iter_gives.0)
