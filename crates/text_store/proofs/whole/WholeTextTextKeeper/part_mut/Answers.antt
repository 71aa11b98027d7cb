use Rattle.std.proofs.Common.{arith, ◌+◌, refl, slice_range, ap, ◌∙◌}
use Rattle.std.specs.Vec.{with_items_from}
use Rattle.text_store.specs.Rewriting.{lent_part}
use Rattle.text_store.specs.declared.whole.WholeText.{WholeText}
use Rattle.text_store.proofs.whole.WholeTextTextKeeper.part_mut.Goals as goal

pub returns : goal.returns
returns c =
    let text : WholeText = c.args.self.now in
    let value =
    c.slice_mut.ensures.value
    ∙ (ap (slice_range text.bytes.items c.places-places.result.start) c.places-places.ensures.end
    ∙ ap (λ s. slice_range text.bytes.items s (s + c.args.len)) c.places-places.ensures.start) in
    let part = lent_part text c.args.sec c.args.at c.args.len c.slice_mut.result.now c.requires.inside value in (
      (refl, λ w. ap (λ s. record text { bytes = with_items_from text.bytes s w }) c.places-places.ensures.start),
      record { some = omega (arith, part.0, c.requires.some); most = omega (arith, part.0); value = part.1; writes_back = tt },
    )
