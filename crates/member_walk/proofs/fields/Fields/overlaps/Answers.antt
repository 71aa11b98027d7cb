use Rattle.std.proofs.Common.{◌≡◌, subst}
use Rattle.std.specs.HashMap.{get}
use Rattle.member_walk.specs.Fields.{items_of, overlaps, place_eq}
use Rattle.member_walk.proofs.FieldLists.{overlap_as}
use Rattle.member_walk.proofs.fields.Fields.overlaps.Goals as goal

pub returns : goal.returns
returns c =
    subst (λ fields. c.any_clashes.result ≡ overlaps (items_of fields) c.args.x.now) c.self.view_is
    (overlap_as (items_of c.self.inside.fields.items) c.args.x.now (get place_eq c.self.inside.extents) c.any_clashes.result c.self.invariant c.any_clashes.ensures.some c.any_clashes.ensures.none)
