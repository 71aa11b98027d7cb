use Rattle.std.proofs.Common.{rules, arith}
use Rattle.addr_assign.proofs.Displaced.{end_step, places_step, places_all, place_below, at_below}
use Rattle.addr_assign.proofs.registers.register_places.Goals as goal

pub next_multiple-place-requires-clause-small : goal.next_multiple-place-requires-clause-small
next_multiple-place-requires-clause-small c =
    let below = at_below c.args.registers.now c.loop-x.x-index c.loop-x.at _ c.requires.sound c.loop-x.invariant.1 in
    let fits = c.requires.fits in omega (arith, below, fits)

pub overflow_cast-place : goal.overflow_cast-place
overflow_cast-place c =
    let below = place_below c.args.registers.now c.loop-x.x-index _ c.loop-x.at c.next_multiple-place.result c.requires.sound c.loop-x-test.true (rw (c.loop-x.invariant.1) c.requires.fits) c.next_multiple-place.ensures.value in
    search (rules, below)

pub overflow_add-at : goal.overflow_add-at
overflow_add-at c =
    let below = place_below c.args.registers.now c.loop-x.x-index _ c.loop-x.at c.next_multiple-place.result c.requires.sound c.loop-x-test.true (rw (c.loop-x.invariant.1) c.requires.fits) c.next_multiple-place.ensures.value in
    search (rules, below)

pub loop-x-preserved : goal.loop-x-preserved
loop-x-preserved c = (
  rw (c.in_ok-push.ensures.items) (places_step c.args.registers.now c.loop-x.x-index _ c.loop-x.at c.next_multiple-place.result c.loop-x.places.items _ c.loop-x-test.true c.loop-x.invariant.0 c.next_multiple-place.ensures.value),
  end_step c.args.registers.now c.loop-x.x-index _ c.loop-x.at c.next_multiple-place.result _ c.loop-x-test.true c.loop-x.invariant.1 c.next_multiple-place.ensures.value,
)

pub returns : goal.returns
returns c = places_all c.args.registers.now c.loop-x.x-index c.loop-x.at c.loop-x.places.items _ (search rules) c.loop-x.invariant.0
