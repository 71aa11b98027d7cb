use Rattle.std.proofs.Common.{arith, ◌≡◌, ◌++◌, [], length, drop, sym, ◌∙◌, ap, append-nil}
use Rattle.member_model.specs.Placing.{sections_of}
use Rattle.fetch_places.specs.Extents.{extents_at}
use Rattle.fetch_places.proofs.Steps.{rest_empty}
use Rattle.fetch_places.proofs.Apart.{no_sections}
use Rattle.fetch_places.proofs.fitting.extents_at.Goals as goal

pub returns : goal.returns
returns c =
    let all : extents_at c.args.addresses.now (sections_of c.args.items.now) ≡ c.loop-item.extents.items ++ extents_at (drop (length c.loop-item.extents.items) c.args.addresses.now) (sections_of []) =
    c.loop-item.invariant ∙ ap (λ rest. c.loop-item.extents.items ++ extents_at (drop (length c.loop-item.extents.items) c.args.addresses.now) (sections_of rest)) (rest_empty c.args.items.now c.loop-item.item-index c.loop-item-test.false) in
    sym (all ∙ (ap (λ more. c.loop-item.extents.items ++ more) (no_sections (drop (length c.loop-item.extents.items) c.args.addresses.now)) ∙ append-nil c.loop-item.extents.items))
