use Rattle.std.proofs.Common.{◌≡◌, ◌∷◌, [], ◌++◌, false, sym, ap, subst, ◌∙◌}
use Rattle.std.specs.HashMap.{get}
use Rattle.member_walk.specs.Fields.{items_of, overlaps, place_eq, AreHeld}
use Rattle.member_walk.proofs.FieldLists.{held_more, items_more}
use Rattle.member_walk.proofs.fields.Fields.with.Goals as goal

pub invariant_of-result : goal.invariant_of-result
invariant_of-result c =
    let apart : overlaps (items_of c.self.inside.fields.items) c.args.item ≡ false = subst (λ fields. overlaps (items_of fields) c.args.item ≡ false) (sym c.self.view_is) c.requires in
    let items : items_of c.push.new.self.items ≡ items_of c.self.inside.fields.items ++ c.args.item ∷ [] =
    ap items_of c.in_ok-push.ensures.items ∙ items_more c.self.inside.fields.items (record { segment = c.args.segment; item = c.args.item }) in
    subst (λ xs. AreHeld xs (get place_eq c.note_extent.new.extents)) (sym items)
    (held_more (items_of c.self.inside.fields.items) c.args.item (get place_eq c.self.inside.extents) (get place_eq c.note_extent.new.extents) c.self.invariant apart (λ place. c.in_ok-note_extent.ensures place))
