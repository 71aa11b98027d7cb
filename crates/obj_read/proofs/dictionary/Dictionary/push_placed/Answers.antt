use Rattle.std.proofs.Common.{sym, ◌∙◌, ap}
use Rattle.obj_read.specs.Facts.{number_of}
use Rattle.obj_read.proofs.Maps.{indexed_more}
use Rattle.obj_read.proofs.dictionary.Dictionary.push_placed.Goals as goal

pub invariant_of-self-in_ok-with_place-2 : goal.invariant_of-self-in_ok-with_place-2
invariant_of-self-in_ok-with_place-2 c = λ id.
    indexed_more c.self.inside.items.items c.args.item c.in-Some.places c.in_ok-with_place.field-0
    c.len-place.result c.len-place.ensures.value c.in_ok-with_place.ensures
    c.self.inside.places (sym c.take-places.ensures.value ∙ c.in-Some.is) c.self.invariant id
    ∙ ap (λ xs. number_of id xs) (sym c.in_ok-push.ensures.ok)
