use Rattle.std.proofs.Common.{arith, ◌≡◌, ◌++◌, ◌∷◌, [], length, None, Some, Ok, sym, ◌∙◌, ap, rules}
use Rattle.std.proofs.lemmas.List.{with_items_is}
use Rattle.fetch_places.specs.Over.{left_of, IsOver, AreInOrder}
use Rattle.fetch_places.specs.Extents.{Fits}
use Rattle.fetch_places.specs.declared.placement.Placement.TheVariants.{Scattered}
use Rattle.fetch_places.proofs.Rooms.{placed_fit}
use Rattle.fetch_places.proofs.Steps.{begins, skips_at, places_at, finds_no_room_at, all_placed_at}
use Rattle.fetch_places.proofs.areas.place_sections.Goals as goal
use Rattle.fetch_places.proofs.areas.place_sections.Goals.{then-is_section+in-Some+in_ok-push-in-Some, else-is_section}

pub loop-item-init : goal.loop-item-init
loop-item-init c = rw (c.in_ok-left.ensures.items, c.new-addresses.ensures.items) (begins (left_of c.args.areas.now) c.args.items.now)

pub returns-in-None-clause-placed : goal.returns-in-None-clause-placed
returns-in-None-clause-placed c =
    finds_no_room_at (left_of c.args.areas.now) c.args.items.now c.loop-item.item-index _ c.loop-item.left.items c.deref_mut.result.now c.take_room.new.areas c.loop-item.addresses.items
    c.loop-item-test.true (sym c.if-is_section.ensures) c.deref_mut.ensures.value c.in-None.ensures c.loop-item.invariant
    ∙ ap (λ n. Some n) (sym c.printed_name.ensures)

pub loop-item-preserved : goal.loop-item-preserved
loop-item-preserved c =
    elim c.if-is_section.branch [
      | then-is_section+in-Some+in_ok-push-in-Some w ↦
          (let left : c.if-is_section.left.items ≡ w.take_room.new.areas = ap (λ v. v.items) w.left-is ∙ with_items_is c.loop-item.left w.take_room.new.areas (omega (arith, w.take_room.auto.areas, w.deref_mut.ensures.len)) in
          let addresses : c.if-is_section.addresses.items ≡ c.loop-item.addresses.items ++ w.in-Some.address ∷ [] = ap (λ v. v.items) w.addresses-is ∙ w.in_ok-push-in-Some.ensures.items in
          rw (left, addresses)
          (places_at (left_of c.args.areas.now) c.args.items.now c.loop-item.item-index _ c.loop-item.left.items w.deref_mut.result.now w.take_room.new.areas c.loop-item.addresses.items w.in-Some.address
          c.loop-item-test.true (sym w.if-is_section.ensures) w.deref_mut.ensures.value w.in-Some.ensures c.loop-item.invariant))
      | else-is_section w ↦
          (let left : c.if-is_section.left ≡ c.loop-item.left = w.left-is in
          let addresses : c.if-is_section.addresses ≡ c.loop-item.addresses = w.addresses-is in
          rw (left, addresses)
          (skips_at (left_of c.args.areas.now) (left_of c.loop-item.left.items) c.args.items.now c.loop-item.item-index _ c.loop-item.addresses.items
          c.loop-item-test.true (sym w.if-is_section.ensures) c.loop-item.invariant))
    ]

pub returns-clause-placed : goal.returns-clause-placed
returns-clause-placed c =
    all_placed_at (left_of c.args.areas.now) (left_of c.loop-item.left.items) c.args.items.now c.loop-item.item-index c.loop-item.addresses.items c.loop-item-test.false c.loop-item.invariant
    ∙ ap (λ a. Some a) (sym c.from_vec.ensures)

pub returns-clause-fits : goal.returns-clause-fits
returns-clause-fits c = placed_fit c.args.areas.now c.args.items.now (Scattered c.from_vec.result) (returns-clause-placed c)
